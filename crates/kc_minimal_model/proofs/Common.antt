-- The names that most proofs of this crate cite, passed on from one place. Declares nothing.
pub use Rattle.std.proofs.Common.{Bool, IfSome, IsTrue, List, None, Option, Some, [], ap, append_assoc, arith, cond, false, filter, get_or, inl, inr, length, length-append, map, not, refl, subst, suc, sym, take, true, unwrap_or, zero, ℕ, ◌&&◌, ◌++◌, ◌+◌, ◌-◌, ◌<◌, ◌==◌, ◌||◌, ◌↔◌, ◌∙◌, ◌∷◌, ◌≡◌}
pub use Rattle.std.proofs.Common.{◌≢◌, ◌≤◌, ◌⊎◌}
pub use Rattle.std.proofs.Math.Bool.{and-false, or-false, or_assoc}
pub use Rattle.std.proofs.lemmas.Bool.{and_from, and_parts, cases_Bool, cases_eq, eq-eqb, eqb-false, eqb-true, false≢true, leb-true, not-true, or_cases, or_left, or_parts, or_right}
pub use Rattle.std.proofs.lemmas.List.{get_or-set_other, get_or-set_same, length-map}
pub use Rattle.std.proofs.lemmas.Option.{slice_get-get_or}
pub use Rattle.std.proofs.lemmas.Str.{IsUtf8-append, IsUtf8-from_is_utf8, IsUtf8-nil, is_utf8-from_IsUtf8}
pub use Rattle.std.specs.List.{AllByRecursion, AllZip, cons_option, filter_map, flat_map, list_all, list_any, range_with_len}
pub use Rattle.std.specs.Option.{option_and_then, option_map, option_or}
pub use Rattle.std.specs.Prelude.{codes, is_none, is_some, nat_eq, nat_le, slice_get, slice_set}
pub use Rattle.std.specs.Str.{IsUtf8}
pub use Rattle.kc_dotconfig_model.proofs.Cuts.{first_of_lines}
pub use Rattle.kc_dotconfig_model.proofs.FittingFiles.{file_fits, none_held, none_length}
pub use Rattle.kc_dotconfig_model.proofs.LineLaws.{file_read}
pub use Rattle.kc_dotconfig_model.proofs.MergedUsers.{file_length, over_none}
pub use Rattle.kc_dotconfig_model.proofs.Tables.{same_from}
pub use Rattle.kc_dotconfig_model.proofs.TrimmedLines.{name_utf8}
pub use Rattle.kc_rules_model.proofs.FittingValues.{low_utf8}
pub use Rattle.kc_dotconfig_model.specs.ConfigFiles.{FileMeans, assigned_over, empty_assignment, file_assignment, file_lines, has_utf8_lines, merged_user}
pub use Rattle.kc_dotconfig_model.specs.ConfigLines.{LineMeaning, Means, ValueMeans, assigns, assigns_escaped, silent, unchosen, unset_meaning}
pub use Rattle.kc_dotconfig_model.specs.Formats.{FileFormat, IsStringSpelling, string_spelling}
pub use Rattle.kc_dotconfig_model.specs.LoadFaults.{IsAccepted}
pub use Rattle.kc_dotconfig_model.specs.PrefixGrammar.{is_name_prefix}
pub use Rattle.kc_dotconfig_model.specs.declared.format.Strings.{Strings}
pub use Rattle.kc_dotconfig_model.specs.declared.format.Strings.TheVariants.{Escaped, Raw}
pub use Rattle.kc_expr.specs.Expr.{SymbolValue}
pub use Rattle.kc_value.specs.Tri.{letter, is_n}
pub use Rattle.kc_minimal_model.specs.CanonicalText.{HasUnitsOfLines, HasValuesOfLines, with_lines}
pub use Rattle.kc_minimal_model.specs.Differences.{Difference, difference_at, differences}
pub use Rattle.kc_minimal_model.specs.FileValues.{DifferAtASymbol, HaveSameValues, ReadsTo, has_short_lines}
pub use Rattle.kc_minimal_model.specs.FullFile.{defines, end_line, full_file, heading, heading_title}
pub use Rattle.kc_minimal_model.specs.Headline.{AreComparedByMinimalFiles}
pub use Rattle.kc_minimal_model.specs.MinimalFile.{has_line, is_kept, is_line_of_its_unit, may_have_line, minimal_file, minimal_symbols}
pub use Rattle.kc_minimal_model.specs.SymbolLine.{ended_line, line_of_value, line_with, spelled, unset_line, value_line}
pub use Rattle.kc_minimal_model.specs.between.EntryTexts.{entry_texts}
pub use Rattle.kc_rules_model.proofs.Ink.{all_weaker, is_ink}
pub use Rattle.kc_rules_model.proofs.Numbers.{number_ink}
pub use Rattle.kc_rules_model.proofs.OrderedTrees.{IsOrderedTree, ordered_tree}
pub use Rattle.kc_rules_model.proofs.RowTrees.{m, n, tree_a, tree_lifted, tree_pick, y}
pub use Rattle.kc_rules_model.proofs.SolutionsFit.{solutions_fit}
pub use Rattle.kc_rules_model.specs.Equality.{same_tri, same_value}
pub use Rattle.kc_rules_model.specs.Reports.{is_written, is_written_symbol, symbol_numbers}
pub use Rattle.kc_rules_model.specs.Rule.{as_user, choice_rule, default_member, is_shown, is_visible, is_visible_member, member_user, rule_of_choice, rule_of_unit}
pub use Rattle.kc_rules_model.specs.RuleLaws.{moves_user_values}
pub use Rattle.kc_rules_model.specs.Shapes.{choice_user_fits, is_line, is_member, symbol_user_fits, symbol_value_fits, text_fits, tri_fits, unit_user_fits, unit_value_fits, user_text_fits}
pub use Rattle.kc_rules_model.specs.SymbolValues.{condition, member_of, text_of, tri_if_selected, tri_of, tri_symbol_value, value_in_unit, value_of_symbol}
pub use Rattle.kc_rules_model.specs.checker.EqualityLaws.{values_decided}
pub use Rattle.kc_rules_model.specs.checker.FrameLaw.{rules_frame}
pub use Rattle.kc_rules_model.specs.checker.RestoreLaw.{default_is_seen, newer, none_listed, older, rules_restore}
pub use Rattle.kc_rules_model.specs.declared.profile.Profile.{Profile}
pub use Rattle.kc_rules_model.specs.declared.profile.Profile.TheVariants.{Present}
pub use Rattle.kc_rules_model.specs.declared.values.MemberLine.{MemberLine}
pub use Rattle.kc_rules_model.specs.declared.values.UnitValue.{UnitValue}
pub use Rattle.kc_rules_model.specs.declared.values.UserValue.{UserValue}
pub use Rattle.kc_solver.proofs.Lists.{get-some}
pub use Rattle.kc_solver.specs.Dependencies.{HasNoCycle}
pub use Rattle.kc_solver.specs.LeastAssignments.{IsCutTo, IsKept}
pub use Rattle.kc_solver.specs.Solutions.{FitsUsers, FitsValues, Solves, user_of}
pub use Rattle.kc_tokens.specs.Languages.{is_linux_6_12}
pub use Rattle.kc_tokens.specs.Token.{is_white_byte, is_name_byte}
pub use Rattle.kc_tokens.specs.declared.language.Language.{Language}
pub use Rattle.kc_tree_model.proofs.Lookups.{inside, place_is, unit_is}
pub use Rattle.kc_tree_model.proofs.ReadingLaws.TreesOfRelation.{tree_related}
pub use Rattle.kc_tree_model.specs.LogicalLines.{without_white_end}
pub use Rattle.kc_tree_model.specs.TreeFiles.{Files}
pub use Rattle.kc_tree_model.specs.TreeLookup.{IsConsistent, index_of_unit, title_of_entry, unit_of}
pub use Rattle.kc_tree_model.specs.Trees.{Choice, Entry, MemberDefault, Symbol, Tree, choice_begins, comment, definition, menu_begins, menu_ends}
pub use Rattle.kc_tree_model.specs.TreesOfFiles.{IsTreeOfFiles}
pub use Rattle.kc_value.proofs.QuotedUtf8.{quoted_utf8}
pub use Rattle.kc_value.proofs.UnquotedUtf8.{ascii_alone, ascii_then}
pub use Rattle.kc_value.specs.Kinds.{is_number, is_tri_kind}
pub use Rattle.kc_value.specs.Lines.{has_newline, has_no_byte}
pub use Rattle.kc_value.specs.Number.{number_of_text}
pub use Rattle.kc_value.specs.declared.limits.TheConstants.{MAX_CONFIG_BYTES, MAX_CONFIG_LINES, MAX_LINE_BYTES}
pub use Rattle.kc_value.specs.declared.tri.Tri.{Tri}
pub use Rattle.kc_value.specs.declared.tri.Tri.TheVariants.{M, N, Y}
pub use Rattle.kc_value.specs.declared.value.Kind.{Kind}
pub use Rattle.kc_value.specs.declared.value.Kind.TheVariants.{Hex, Int, Text, Tristate}

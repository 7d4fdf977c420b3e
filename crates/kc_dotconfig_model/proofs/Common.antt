-- The names that most proofs of this crate cite, passed on from one place. Declares nothing.
pub use Rattle.std.proofs.Common.{Bool, List, None, Option, Some, [], ap, append_assoc, arith, cond, drop, false, filter, find, get_or, inl, inr, length, length-append, not, refl, reverse, rules, subst, suc, sym, take, true, zero, ℕ, ◌&&◌, ◌++◌, ◌+◌, ◌-◌, ◌<◌, ◌==◌, ◌||◌, ◌∙◌, ◌∷◌, ◌≡◌, ◌≢◌, ◌≤◌}
pub use Rattle.std.proofs.Common.{◌⊎◌}
pub use Rattle.std.proofs.Math.Seq.{take-append_seam}
pub use Rattle.std.proofs.lemmas.Bool.{and_from, and_parts, cases_Bool, cases_eq, cases_lt, eq-eqb, eqb-true, false≢true, lt-ltb, ltb-true, not-true, or_right}
pub use Rattle.std.proofs.lemmas.Bool.Decides.{Decides-eqb}
pub use Rattle.std.proofs.lemmas.Grind.{common_steps, elements}
pub use Rattle.std.proofs.lemmas.List.{append-nil, get_or-set_other, get_or-set_same, length-set, length-take-le}
pub use Rattle.std.proofs.lemmas.List.Elements.{filter-append}
pub use Rattle.std.proofs.lemmas.List.Folds.{list_all-append}
pub use Rattle.std.proofs.lemmas.List.Sums.{suffix_len-le-length, sum_by-append, sum_by-cons}
pub use Rattle.std.proofs.lemmas.Option.{slice_get_within}
pub use Rattle.std.proofs.lemmas.Slice.Eq.{bytes_eq-Decides}
pub use Rattle.std.proofs.lemmas.Str.{IsCharBoundary-after_ascii, IsUtf8-from_is_utf8, IsUtf8-nil, is_utf8-from_IsUtf8}
pub use Rattle.std.specs.List.{AllByRecursion, AllZip, list_all, onto_first, position_or_len, suffix_len}
pub use Rattle.std.specs.Option.{option_and_then, option_or}
pub use Rattle.std.specs.Prelude.{bytes_eq, codes, is_some, nat_lt, option_map, replicate, slice_get, slice_set}
pub use Rattle.std.specs.Str.{IsCharBoundary, IsUtf8, is_utf8}
pub use Rattle.kc_dotconfig_model.specs.ConfigFiles.{FileMeans, assigned, assigned_over, empty_assignment, file_assignment, file_lines, has_utf8_lines, merged_user, merged_users}
pub use Rattle.kc_dotconfig_model.specs.ConfigLines.{BeginsWithHash, IsMalformed, IsUnsetLine, IsValueLine, LineMeaning, Means, ValueMeans, assigns, assigns_escaped, chosen, comment, empty, has_escape_notice, is_name_not_set, is_unset_text, no_hex, no_int, not_chosen, notice, number, quoted, silent}
pub use Rattle.kc_dotconfig_model.specs.ConfigLines.{text_meaning, tri, tri_of_text, unchosen, unchosen_meaning, unset, unset_meaning, value}
pub use Rattle.kc_dotconfig_model.specs.Formats.{FileFormat, IsStringSpelling, between_quotes, has_other_escape}
pub use Rattle.kc_dotconfig_model.specs.LoadFaults.{IsAccepted, IsFirstFault, IsLineAt, OccursAt, complete, cut_short, rank_of}
pub use Rattle.kc_dotconfig_model.specs.OtherChoiceLaws.{IsGivenN, IsHiddenLast, own_member}
pub use Rattle.kc_dotconfig_model.specs.OtherChoices.{given_by, other_member}
pub use Rattle.kc_dotconfig_model.specs.PrefixGrammar.{is_name_prefix}
pub use Rattle.kc_dotconfig_model.specs.between.LineMeanings.{after_front, file_meanings, if_named, is_hash, meanings_of_lines, named_before, split_at_byte, unset_name, value_meaning, value_parts, with_rest}
pub use Rattle.kc_dotconfig_model.specs.between.PartialFiles.{IsCutFile, IsSound}
pub use Rattle.kc_dotconfig_model.specs.declared.choice_line.ChoiceLine.{ChoiceLine}
pub use Rattle.kc_dotconfig_model.specs.declared.fault.LoadKind.{LoadKind}
pub use Rattle.kc_dotconfig_model.specs.declared.fault.LoadKind.TheVariants.{LineTooLong, Malformed, NotUtf8, Read, TooLarge, TooManyLines}
pub use Rattle.kc_dotconfig_model.specs.declared.format.Strings.{Strings}
pub use Rattle.kc_dotconfig_model.specs.declared.format.Strings.TheVariants.{Escaped, Raw}
pub use Rattle.kc_dotconfig_model.specs.declared.notice.NoticeKind.{NoticeKind}
pub use Rattle.kc_dotconfig_model.specs.declared.notice.NoticeKind.TheVariants.{NotOfType, UnknownSymbol}
pub use Rattle.kc_rules_model.proofs.RowTrees.{sets, tree_a, tree_pick}
pub use Rattle.kc_rules_model.specs.MemberLines.{is_listed, merged_lines, last_y}
pub use Rattle.kc_rules_model.specs.Rule.{default_member, is_shown, is_visible_member, member_user}
pub use Rattle.kc_rules_model.specs.Shapes.{choice_user_fits, is_member, unit_user_fits}
pub use Rattle.kc_rules_model.specs.declared.values.MemberLine.{MemberLine}
pub use Rattle.kc_rules_model.specs.declared.values.UnitValue.{UnitValue}
pub use Rattle.kc_rules_model.specs.declared.values.UserValue.{UserValue}
pub use Rattle.kc_solver.specs.Solutions.{user_of}
pub use Rattle.kc_tokens.specs.Languages.{is_linux_6_12}
pub use Rattle.kc_tokens.specs.Token.{is_white_byte, is_name_byte}
pub use Rattle.kc_tokens.specs.declared.language.Language.{Language}
pub use Rattle.kc_tokens.specs.declared.language.Language.TheVariants.{Linux}
pub use Rattle.kc_tokens.specs.declared.language.LinuxVersion.TheVariants.{V6_12}
pub use Rattle.kc_tree_model.proofs.Lookups.{index_if_found, unit_is}
pub use Rattle.kc_tree_model.specs.LogicalLines.{without_white_end}
pub use Rattle.kc_tree_model.specs.TreeLookup.{IsConsistent, symbol_named, unit_of}
pub use Rattle.kc_tree_model.specs.Trees.{Choice, Symbol, Tree}
pub use Rattle.kc_value.specs.Kinds.{is_tri_kind}
pub use Rattle.kc_value.specs.Lines.{HasWholeLines, has_no_byte, newline_count}
pub use Rattle.kc_value.specs.Number.{number_of_text}
pub use Rattle.kc_value.specs.QuotedTexts.{IsBetweenQuotes, IsQuoted, none, pair, plain}
pub use Rattle.kc_value.specs.declared.limits.TheConstants.{MAX_CONFIG_BYTES, MAX_CONFIG_LINES, MAX_LINE_BYTES}
pub use Rattle.kc_value.specs.declared.tri.Tri.{Tri}
pub use Rattle.kc_value.specs.declared.tri.Tri.TheVariants.{M, N, Y}
pub use Rattle.kc_value.specs.declared.value.Kind.{Kind}
pub use Rattle.kc_value.specs.declared.value.Kind.TheVariants.{Hex, Int, Text, Tristate}

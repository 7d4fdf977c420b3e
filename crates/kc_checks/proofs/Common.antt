-- The names that most proofs of this crate cite, passed on from one place. Declares nothing.
pub use Rattle.std.proofs.Common.{Bool, Err, List, None, Ok, Option, Some, [], ap, append-nil, append_assoc, arith, cond, drop, false, filter, get_or, inl, inr, length, length-append, map, refl, replicate, reverse, set, subst, suc, sym, take, true, zero, ℕ, ◌&&◌, ◌++◌, ◌+◌, ◌-◌, ◌<◌, ◌||◌, ◌∙◌, ◌∷◌}
pub use Rattle.std.proofs.Common.{◌≡◌, ◌≤◌, ◌⊎◌}
pub use Rattle.std.proofs.Math.Seq.{drop-length}
pub use Rattle.std.proofs.lemmas.Bool.{eq-eqb, eqb-true}
pub use Rattle.std.proofs.lemmas.Grind.{common_steps, elements, flat_map-append}
pub use Rattle.std.proofs.lemmas.List.{get_or_read, length-map, map-append}
pub use Rattle.std.proofs.lemmas.List.Elements.{filter-append}
pub use Rattle.std.proofs.lemmas.Option.{get_or_from_slice_get}
pub use Rattle.std.specs.List.{cons_option, list_any}
pub use Rattle.std.specs.Option.{option_or}
pub use Rattle.std.specs.Prelude.{All, bytes_eq, filter_map, flat_map, is_none, is_some, nat_lt, not, option_and_then, option_map, option_to_list, slice_get, slice_index, slice_range, string_bytes, ◌==◌}
pub use Rattle.kc_checks.specs.between.FaultSearch.{AreSmall, choices_before}
pub use Rattle.kc_checks.specs.between.Summaries.{attributes_end, choices_at, enclosing_choice, first_in_definitions, first_is, first_summary, group_at, member_in, member_key, member_keys_at, members_at, no_group, number_at, own_choice, read_before, summary_in, symbol_summaries, type_in}
unfoldable pub use Rattle.kc_checks.specs.between.Summaries.{IsSummary}
pub use Rattle.kc_checks.specs.checker.Kinds.{choice_around, definition_kind}
pub use Rattle.kc_checks.specs.checker.Marks.{AreMarked, WereMarked}
pub use Rattle.kc_checks.specs.checker.MissingPaths.{is_absent, paths_in, with_absent, with_all, with_path}
pub use Rattle.kc_checks.specs.checker.SummarySteps.{nothing_known}
unfoldable pub use Rattle.kc_checks.specs.checker.SummarySteps.{IsSummedTo}
pub use Rattle.kc_checks.specs.declared.summary.Summary.{Summary}
pub use Rattle.kc_checks.specs.declared.summary.SymbolSummary.{SymbolSummary}
pub use Rattle.kc_expr.specs.Expr.{modules as modules_name}
pub use Rattle.kc_expr.specs.Lookup.{index_of_name}
pub use Rattle.kc_expr.specs.between.Arena.{Exprs}
pub use Rattle.kc_parser.proofs.NameLemmas.{as_many_names}
pub use Rattle.kc_parser.specs.between.EnclosingChoices.{is_choice_code}
pub use Rattle.kc_parser.specs.between.ListingView.{RepresentsGroups, RepresentsHead, line_in}
unfoldable pub use Rattle.kc_parser.specs.between.ListingView.{RepresentsListing}
pub use Rattle.kc_parser.specs.between.MemoryFaults.{no_memory}
pub use Rattle.kc_parser.specs.between.SymbolTable.{text_of_name}
pub use Rattle.kc_parser.specs.declared.listing.Group.{Group as CodeGroup}
pub use Rattle.kc_parser.specs.declared.listing.GroupHead.{GroupHead as CodeHead}
pub use Rattle.kc_parser.specs.declared.listing.Line.{Line as CodeLine}
pub use Rattle.kc_parser.specs.declared.listing.Listing.{Listing}
pub use Rattle.kc_statements.specs.between.StatementViews.{attribute_in, default_in}
pub use Rattle.kc_tokens.specs.declared.language.Language.{Language}
pub use Rattle.kc_tree_model.proofs.Consistency.Lists.{Differ, Differ-once, Has, at_most_once, filter_map-has, get_below, has-at, has-filter, has-place, map-get, number-get, place-get, text_same}
pub use Rattle.kc_tree_model.proofs.Consistency.Places.{group-placed}
pub use Rattle.kc_tree_model.proofs.Consistency.Units.{has_mapped}
pub use Rattle.kc_tree_model.proofs.ReadingLaws.TreesOfRelation.{wanted_related}
pub use Rattle.kc_tree_model.specs.Blocks.{Group, Group as ModelGroup, GroupHead, Line, defined_name, from_head, of_head, open_blocks, opens_choice, sourced_path}
pub use Rattle.kc_tree_model.specs.Conditions.{GroupInContext, attribute_values, group_in_context, groups_in_context}
pub use Rattle.kc_tree_model.specs.Contents.{Contents, bare_name, begins_symbol, choice_number, choice_of_symbol, contents_of, defines, definitions_of, is_first_definition, is_member_of, member_names, type_given}
pub use Rattle.kc_tree_model.specs.Limits.{names_defined, without_repeats}
pub use Rattle.kc_tree_model.specs.Statements.{default_of, name_of_head, prompt_of, type_of}
pub use Rattle.kc_tree_model.specs.declared.statement.Head.TheVariants.{Choice as choice, Config as config}
pub use Rattle.kc_tree_model.specs.TreeFaults.{attribute_faults, choice_faults, definition_faults, faults_at, faults_of_lines, is_again_in_choice, is_no_member, is_no_member_kind, kind_of, only_extends_member}
pub use Rattle.kc_tree_model.specs.TreeFiles.{Files}
pub use Rattle.kc_tree_model.specs.declared.fault.TreeFault.{TreeFault}
pub use Rattle.kc_value.specs.declared.value.Kind.{Kind}

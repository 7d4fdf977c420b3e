-- The names that most proofs of this crate cite, passed on from one place. Declares nothing.
pub use Rattle.std.proofs.Common.{Bool, Err, IfErr, List, None, Option, Some, [], ap, append-nil, append_assoc, arith, cond, drop, false, get_or, inl, inr, length, map, refl, reverse, rules, subst, suc, sym, true, zero, ℕ, ◌++◌, ◌+◌, ◌-◌, ◌<◌, ◌==◌, ◌^◌, ◌∙◌, ◌∷◌, ◌≡◌, ◌≤◌, ◌⊎◌}
pub use Rattle.std.proofs.Math.Seq.{drop-cons, drop-length}
pub use Rattle.std.proofs.lemmas.Bool.{eq-eqb, eqb-true}
pub use Rattle.std.proofs.lemmas.Grind.{common_steps, elements}
pub use Rattle.std.proofs.lemmas.List.{length-map, map-append}
pub use Rattle.std.proofs.lemmas.List.Elements.{All-append, All-cons, All-nil}
pub use Rattle.std.proofs.lemmas.Result.{IfOk-weaker}
pub use Rattle.std.specs.List.{cons_option, list_any}
pub use Rattle.std.specs.Prelude.{All, IfSome, filter, filter_map, flat_map, is_none, is_some, option_and_then, option_map, option_to_list, slice_get, slice_range, unwrap_or}
pub use Rattle.kc_builder.specs.checker.Assembly.{IsFaultRead, IsReadIn}
pub use Rattle.kc_builder.specs.checker.ChoiceDefaults.{AreDefaultsOf, IsWalkOf, choice_defaults_of, member_default_row, member_default_rows}
pub use Rattle.kc_builder.specs.checker.ChoiceRows.{AreChoiceRows, IsChoiceRow, opens}
pub use Rattle.kc_builder.specs.checker.Definitions.{AreAttributes}
pub use Rattle.kc_builder.specs.checker.GatheredItems.{HasAppended, gathered_default, gathered_items, gathered_prompt, gathered_range, gathered_reverse_dependency, gathered_target, own_key, target_key}
pub use Rattle.kc_builder.specs.checker.GroupParts.{AreParts}
pub use Rattle.kc_builder.specs.checker.Rows.{AreRowsOf, IsRowOf, row_of_symbol, rows_of_symbols}
pub use Rattle.kc_builder.specs.declared.group_parts.GroupParts.{GroupParts}
pub use Rattle.kc_checks.proofs.GroupPlaces.{all_before, count_is, none_before, placed_more, shown_at}
pub use Rattle.kc_checks.specs.between.FaultSearch.{HasNoFaults, choices_before}
pub use Rattle.kc_checks.specs.between.Summaries.{IsRepresented, attributes_end, group_at, no_group, own_lines, read_before}
unfoldable pub use Rattle.kc_checks.specs.between.Summaries.{IsSummary}
pub use Rattle.kc_checks.specs.declared.summary.Summary.{Summary}
pub use Rattle.kc_checks.specs.declared.summary.SymbolSummary.{SymbolSummary}
pub use Rattle.kc_conditions.proofs.GroupConditionLemmas.{conditioned_at}
pub use Rattle.kc_conditions.proofs.Growth.{option_front}
pub use Rattle.kc_conditions.specs.between.GroupConditions.{conditions_at, own_conditions}
pub use Rattle.kc_conditions.specs.between.Walks.{RepresentsAllConditions, RepresentsConditions, condition_at}
pub use Rattle.kc_conditions.specs.declared.group_walk.GroupConditions.{GroupConditions}
pub use Rattle.kc_expr.specs.Expr.{Expr}
pub use Rattle.kc_expr.specs.Lookup.{index_of_name}
pub use Rattle.kc_expr.specs.between.Arena.{Exprs, Represents, node_expr}
pub use Rattle.kc_parser.proofs.NameLemmas.{as_many_names}
pub use Rattle.kc_parser.specs.between.EnclosingChoices.{is_choice_code}
pub use Rattle.kc_parser.specs.between.ListingView.{LineNodesExist, RepresentsGroup, RepresentsGroups, RepresentsHead, line_in}
unfoldable pub use Rattle.kc_parser.specs.between.ListingView.{RepresentsListing}
pub use Rattle.kc_parser.specs.between.MemoryFaults.{no_memory}
pub use Rattle.kc_parser.specs.between.SymbolTable.{HasNames, number_in, text_of_name}
pub use Rattle.kc_parser.specs.declared.listing.Group.{Group as CodeGroup}
pub use Rattle.kc_parser.specs.declared.listing.GroupHead.{GroupHead as CodeHead}
pub use Rattle.kc_parser.specs.declared.listing.Line.{Line as CodeLine}
pub use Rattle.kc_parser.specs.declared.listing.Listing.{Listing}
pub use Rattle.kc_parser.specs.declared.listing.SymbolTable.{SymbolTable}
pub use Rattle.kc_statements.specs.between.StatementViews.{AttributeNodesExist, attribute_in, ReadAttribute}
pub use Rattle.kc_tree_model.specs.between.Attributes.{is_prompt, target_given, DefaultAttribute, RangeAttribute, TargetAttribute}
pub use Rattle.kc_tree_model.specs.declared.statement.ReverseKind.{ReverseKind}
pub use Rattle.kc_tree_model.specs.declared.statement.ReverseKind.TheVariants.{Imply, Select}
pub use Rattle.kc_tokens.specs.declared.language.Language.{Language}
pub use Rattle.kc_tree.specs.TreeModel.{TreeModel}
pub use Rattle.kc_tree.specs.between.GatheredAttributes.{AreKeys}
pub use Rattle.kc_tree.specs.between.GatheredView.{gathered_tree}
pub use Rattle.kc_tree.specs.between.GroupedItems.{items_of}
pub use Rattle.kc_tree.specs.between.StoredView.{entry_from_row}
pub use Rattle.kc_tree.specs.between.StoredFits.{EntryRowFits}
pub use Rattle.kc_tree.specs.between.Views.{DefaultFits, ReverseDependencyFits, member_default_view}
pub use Rattle.kc_tree.specs.declared.items_with_keys.ItemsWithKeys.{ItemsWithKeys}
pub use Rattle.kc_tree.specs.declared.rows.ChoiceRow.{ChoiceRow}
pub use Rattle.kc_tree.specs.declared.rows.SymbolRow.{SymbolRow}
pub use Rattle.kc_tree.specs.declared.symbol.ReverseDependency.{ReverseDependency}
pub use Rattle.kc_tree.specs.declared.attributes.Attributes.{Attributes}
pub use Rattle.kc_tree_model.proofs.Consistency.Definitions.{IsSound}
pub use Rattle.kc_tree_model.proofs.Consistency.Lists.{Differ, Differ-once, Has, get_below, number-get, place-get}
pub use Rattle.kc_tree_model.specs.Blocks.{Group, GroupHead, Line, closing, defined_name, from_head, is_some_block, of_head, open_blocks, side_of}
pub use Rattle.kc_tree_model.specs.Conditions.{GroupInContext, attribute_condition, attribute_values, context_of, dependency_of, group_in_context, groups_in_context, prompt_condition}
pub use Rattle.kc_tree_model.specs.Contents.{Contents, choice_number, contents_of, defines, definitions_of}
unfoldable pub use Rattle.kc_tree_model.specs.Contents.{tree_of_files, tree_of_groups}
pub use Rattle.kc_tree_model.specs.Limits.{names_defined}
pub use Rattle.kc_tree_model.specs.Statements.{Attribute, block_of_head, default_of, name_of_head, prompt_of, range_of}
pub use Rattle.kc_tree_model.specs.declared.statement.Head.TheVariants.{Config as config}
pub use Rattle.kc_tree_model.specs.TreeFaults.{faults_of_group}
unfoldable pub use Rattle.kc_tree_model.specs.TreeFaults.{tree_faults}
pub use Rattle.kc_tree_model.specs.TreeFiles.{Files}
unfoldable pub use Rattle.kc_tree_model.specs.TreeReading.{reading}

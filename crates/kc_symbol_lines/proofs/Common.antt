-- The names that most proofs of this crate cite, passed on from one place. Declares nothing.
pub use Rattle.std.proofs.Common.{Bool, List, None, Option, Some, [], ap, append-nil, append_assoc, arith, cond, drop, false, get_or, inl, inr, length, map, refl, subst, suc, sym, take, true, zero, ℕ, ◌++◌, ◌+◌, ◌<◌, ◌∙◌, ◌∷◌, ◌≡◌, ◌≤◌}
pub use Rattle.std.proofs.lemmas.List.{get_or_read, length-map, map-append}
pub use Rattle.std.proofs.lemmas.List.Elements.{All-cons, All-nil, All-take}
pub use Rattle.std.proofs.lemmas.Option.{unwrap_or-slice_get}
pub use Rattle.std.specs.Global.{Vec}
pub use Rattle.std.specs.List.{cons_option}
pub use Rattle.std.specs.Prelude.{All, IfSome, filter_map, flat_map, is_some, option_map, option_to_list, slice_get, unwrap_or}
pub use Rattle.kc_builder.specs.between.TreeLines.{HasLines}
pub use Rattle.kc_builder.specs.declared.tree_lines.TreeLines.{TreeLines}
pub use Rattle.kc_checks.proofs.GroupPlaces.{all_before, count_is, shown_at}
pub use Rattle.kc_checks.specs.between.Summaries.{group_at, no_group, read_before}
pub use Rattle.kc_expr.specs.between.Arena.{Exprs, node_expr}
pub use Rattle.kc_parser.specs.between.ListingView.{LineNodesExist, RepresentsGroup, RepresentsHead, line_in}
pub use Rattle.kc_parser.specs.declared.listing.Group.{Group as CodeGroup}
pub use Rattle.kc_parser.specs.declared.listing.GroupHead.{GroupHead as CodeHead}
pub use Rattle.kc_parser.specs.declared.listing.Line.{Line as CodeLine}
pub use Rattle.kc_reasons_model.specs.Places.{LocatedContext, located_at, located_context, located_dependencies, located_prompts}
pub use Rattle.kc_reasons_model.specs.SymbolLines.{attribute_positions, position_of}
pub use Rattle.kc_statements.specs.between.StatementViews.{AttributeNodesExist, attribute_in, if_in, ReadAttribute}
pub use Rattle.kc_tree_model.specs.between.Attributes.{conjunct_given, TargetAttribute}
pub use Rattle.kc_tree_model.specs.Statements.{prompt_of, Attribute}
pub use Rattle.kc_tree_model.specs.declared.statement.Conjuncts.{Conjuncts}
pub use Rattle.kc_tree_model.specs.declared.statement.Conjuncts.TheVariants.{Dependencies, Visibles}
pub use Rattle.kc_tree_model.specs.declared.statement.ReverseKind.{ReverseKind}
pub use Rattle.kc_symbol_lines.specs.between.LinesView.{AreHeld, IsHeld, all_located, located_view, position_view}
pub use Rattle.kc_symbol_lines.specs.checker.Blocks.{HasBlocks, HasBlocksTo, IsChain, block_after, block_at, open_numbers}
pub use Rattle.kc_symbol_lines.specs.checker.Contexts.{as_choice_part, inside_blocks, inside_choice, inside_head, inside_menu, lines_at, lists_of, shown_parts}
pub use Rattle.kc_symbol_lines.specs.checker.Definitions.{AreDefinitionLines, defaults_at, dependency_at, prompts_at, ranges_at}
pub use Rattle.kc_symbol_lines.specs.checker.Lists.{each_items}
pub use Rattle.kc_symbol_lines.specs.checker.OwnLines.{EnclosingLists, dependency_parts, is_given, located_if, parts_in, places_in, position_at, prompt_at, prompt_parts, prompts_in}
pub use Rattle.kc_symbol_lines.specs.checker.Targets.{AreGathered, target_keys, target_places}
pub use Rattle.kc_symbol_lines.specs.declared.located.LocatedExpr.{LocatedExpr, LocatedExpr as CodeLocated}
pub use Rattle.kc_symbol_lines.specs.declared.located.SymbolLines.{SymbolLines}
pub use Rattle.kc_symbol_lines.specs.declared.symbol.DefinitionLines.{DefinitionLines}
pub use Rattle.kc_symbol_lines.specs.declared.targets.GatheredLines.{GatheredLines}
pub use Rattle.kc_tokens.specs.Languages.{is_linux_6_12}
pub use Rattle.kc_tokens.specs.declared.language.Language.{Language}
pub use Rattle.kc_tree.specs.TreeModel.{TreeModel}
pub use Rattle.kc_tree_model.proofs.Consistency.Lists.{Has, get_below}
pub use Rattle.kc_tree_model.specs.Blocks.{Group, GroupHead, Line, Position, closing, inside, open_blocks, opening, side_of}
pub use Rattle.kc_tree_model.specs.Conditions.{GroupInContext, group_in_context, groups_in_context}
pub use Rattle.kc_tree_model.specs.Contents.{Contents, contents_of, definitions_of, symbol_of}
unfoldable pub use Rattle.kc_tree_model.specs.Contents.{tree_of_groups}
pub use Rattle.kc_tree_model.specs.Limits.{names_defined}
pub use Rattle.kc_tree_model.specs.Trees.{Symbol, Tree}

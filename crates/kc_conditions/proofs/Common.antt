-- The names that most proofs of this crate cite, passed on from one place. Declares nothing.
pub use Rattle.std.proofs.Common.{Bool, List, None, Option, Some, [], ap, append-nil, arith, cond, drop, false, get_or, length, length-append, map, refl, reverse, subst, suc, sym, take, true, ℕ, ◌++◌, ◌+◌, ◌-◌, ◌<◌, ◌∙◌, ◌∷◌, ◌≡◌, ◌≤◌}
pub use Rattle.std.proofs.lemmas.Grind.{common_steps, elements}
pub use Rattle.std.proofs.lemmas.List.{get_or_read, take_all}
pub use Rattle.std.specs.Prelude.{All, IfSome, filter_map, option_to_list, slice_get, slice_range}
pub use Rattle.kc_checks.specs.between.Summaries.{read_before}
pub use Rattle.kc_conditions.specs.between.Firsts.{GroupHeadNodesExist, RepresentsPrompt, first_prompt}
pub use Rattle.kc_conditions.specs.between.GroupConditions.{conditions_at, no_conditions}
pub use Rattle.kc_conditions.specs.between.Walks.{HasWalked, RepresentsAllConditions, RepresentsConditions, RepresentsEnclosing, or_yes}
pub use Rattle.kc_conditions.specs.checker.Conjunctions.{Conjoins, conjunct}
pub use Rattle.kc_conditions.specs.checker.Conjuncts.{AreAppended, AreJoined, condition_view, conjunct_views, line_condition}
pub use Rattle.kc_conditions.specs.declared.conditions.EnclosingConditions.{EnclosingConditions}
pub use Rattle.kc_conditions.specs.declared.conditions.EntryConditions.{EntryConditions}
pub use Rattle.kc_conditions.specs.declared.group_walk.GroupConditions.{GroupConditions}
pub use Rattle.kc_expr.proofs.StoreLemmas.{represents_on}
pub use Rattle.kc_expr.specs.Expr.{Expr}
pub use Rattle.kc_expr.specs.between.Arena.{Exprs, Grows, Represents, node_expr}
pub use Rattle.kc_parser.proofs.AppendSteps.{grows_same}
pub use Rattle.kc_parser.specs.between.ListingView.{LineNodesExist, RepresentsHead, line_in}
pub use Rattle.kc_parser.specs.declared.listing.Line.{Line as CodeLine}
pub use Rattle.kc_statements.proofs.ArenaGrowth.{grows_on}
pub use Rattle.kc_statements.proofs.GrownArenas.{attribute_held, node_held, node_same}
pub use Rattle.kc_statements.specs.between.StatementViews.{AttributeNodesExist, attribute_in, ReadAttribute}
pub use Rattle.kc_tree_model.specs.between.Attributes.{conjunct_given, is_prompt}
pub use Rattle.kc_tree_model.specs.declared.statement.Conjuncts.TheVariants.{Dependencies, Visibles}
pub use Rattle.kc_tokens.specs.Languages.{is_linux_6_12}
pub use Rattle.kc_tokens.specs.declared.language.Language.{Language}
pub use Rattle.kc_tree_model.specs.Blocks.{Group, Line, of_head, open_blocks}
pub use Rattle.kc_tree_model.specs.Conditions.{conjunction_of, context, dependencies_of, group_in_context, visible_conjunct}
pub use Rattle.kc_tree_model.specs.Statements.{Attribute, depends_of, visible_of}
pub use Rattle.kc_tree_model.specs.declared.statement.Head.TheVariants.{Choice as choice, Condition as condition}

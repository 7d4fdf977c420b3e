-- The names that most proofs of this crate cite, passed on from one place. Declares nothing.
pub use Rattle.std.proofs.Common.{Bool, List, None, Option, Some, [], ap, arith, eqb, false, get_or, inl, inr, length, map, refl, rules, subst, sym, take, true, ℕ, ◌++◌, ◌+◌, ◌<◌, ◌==◌, ◌||◌, ◌∙◌, ◌∷◌, ◌≡◌}
pub use Rattle.std.proofs.lemmas.Bool.{eq-eqb, eqb-true, false≢true, or_cases, or_left, or_right}
pub use Rattle.std.proofs.lemmas.Grind.{common_steps, elements}
pub use Rattle.std.proofs.lemmas.List.Folds.{list_any-append}
pub use Rattle.std.proofs.lemmas.Option.{slice_get-get_or}
pub use Rattle.std.proofs.lemmas.Result.{on_ok_weaker}
pub use Rattle.std.specs.List.{AllByRecursion, flat_map, list_any}
pub use Rattle.std.specs.Option.{option_map}
pub use Rattle.std.specs.Prelude.{slice_index_or}
pub use Rattle.kc_dependencies.specs.checker.Links.{AreUnits, LinksBelow, depends_on_reverse, has, in_prompt, is_at, is_of}
pub use Rattle.kc_expr.specs.Expr.{modules}
pub use Rattle.kc_expr.specs.ExpressionNames.{operand_names}
pub use Rattle.kc_expr.specs.between.Visits.{mentions, passes_some_name}
pub use Rattle.kc_tree.specs.between.Views.{choice_view, operand_or_empty, symbol_of_name_id, symbol_view}
pub use Rattle.kc_tree_model.specs.TreeLookup.{symbol_named, unit_of}
pub use Rattle.kc_tree_model.specs.Trees.{Tree}

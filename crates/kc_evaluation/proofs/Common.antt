-- The names that most proofs of this crate cite, passed on from one place. Declares nothing.
pub use Rattle.std.proofs.Common.{List, None, Option, Some, [], ap, arith, cond, drop, find, inl, inr, length, map, refl, sym, true, ℕ, ◌+◌, ◌<◌, ◌==◌, ◌∙◌, ◌∷◌, ◌≡◌}
pub use Rattle.std.proofs.lemmas.Bool.{cases_lt, eqb-true, false_from_ne_true}
pub use Rattle.std.proofs.lemmas.Grind.{common_steps, elements}
pub use Rattle.std.proofs.lemmas.List.Folds.{list_any_none}
pub use Rattle.std.specs.List.{list_any}
pub use Rattle.kc_evaluation.specs.checker.RuleParts.{active_default_of}
pub use Rattle.kc_evaluation.specs.checker.ValuationView.{valuation_exprs, valuation_tree, valuation_values}
pub use Rattle.kc_expr.specs.Expr.{Expr}
pub use Rattle.kc_expr.specs.between.Arena.{node_expr}
pub use Rattle.kc_value.specs.Tri.{largest, tri_or}
pub use Rattle.kc_rules_model.specs.MemberLines.{is_listed, last_y}
pub use Rattle.kc_rules_model.specs.Rule.{is_visible_member}
pub use Rattle.kc_rules_model.specs.SymbolValues.{environment}
pub use Rattle.kc_rules_model.specs.declared.values.MemberLine.{MemberLine}
pub use Rattle.kc_rules_model.specs.declared.values.UnitValue.{UnitValue}
pub use Rattle.kc_tree.specs.between.Views.{default_view, symbol_view}
pub use Rattle.kc_tree_model.specs.Trees.{Tree}

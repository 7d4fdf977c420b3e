-- The names that most proofs of this crate cite, passed on from one place. Declares nothing.
pub use Rattle.std.proofs.Common.{Bool, List, None, Option, Some, [], ap, append_assoc, arith, cond, drop, false, map, refl, sym, true, ℕ, ◌++◌, ◌∙◌, ◌∷◌, ◌≡◌}
pub use Rattle.std.proofs.lemmas.Grind.{common_steps}
pub use Rattle.std.proofs.lemmas.List.Elements.{All-nil, All-same}
pub use Rattle.std.specs.Global.{Vec}
pub use Rattle.std.specs.List.{All, list_any}
pub use Rattle.std.specs.Option.{option_copied}
pub use Rattle.std.specs.Prelude.{slice_get}
pub use Rattle.kc_evaluation.proofs.Evaluations.{member_there}
pub use Rattle.kc_evaluation.specs.checker.ValuationView.{valuation_exprs, valuation_tree, valuation_values}
pub use Rattle.kc_expr.specs.between.Arena.{node_expr}
pub use Rattle.kc_reasons.specs.between.Parts.{IsThere, alternatives_view, part_view, parts_view}
pub use Rattle.kc_reasons.specs.checker.LackingWalk.{lacking_in_reverse}
pub use Rattle.kc_reasons.specs.declared.low_parts.LowPart.{LowPart}
pub use Rattle.kc_reasons_model.specs.Conjuncts.{Part, lacking}
pub use Rattle.kc_reasons_model.specs.DecisiveLimits.{numbers_where}
pub use Rattle.kc_reasons_model.specs.Reasons.{is_empty}
pub use Rattle.kc_reasons_model.specs.declared.cases.Hindrance.{Hindrance}
pub use Rattle.kc_rules_model.specs.SymbolValues.{environment}
pub use Rattle.kc_rules_model.specs.declared.profile.Profile.{Profile}
pub use Rattle.kc_rules_model.specs.declared.values.UnitValue.{UnitValue}
pub use Rattle.kc_rules_model.specs.declared.values.UserValue.{UserValue}
pub use Rattle.kc_tree.specs.between.Views.{choice_view, symbol_view}
pub use Rattle.kc_tree_model.specs.Trees.{Choice, Symbol, Tree}
pub use Rattle.kc_value.specs.declared.tri.Tri.{Tri}

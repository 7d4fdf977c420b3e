-- The names that most proofs of this crate cite, passed on from one place. Declares nothing.
pub use Rattle.std.proofs.Common.{Bool, List, [], ap, cond, drop, length, map, not, refl, sym, ◌++◌, ◌+◌, ◌∙◌, ◌∷◌, ◌≡◌}
pub use Rattle.std.proofs.lemmas.List.{map-append}
pub use Rattle.std.specs.Option.{option_and_then}
pub use Rattle.std.specs.Prelude.{All, slice_get}
pub use Rattle.kc_evaluation.specs.checker.ValuationView.{valuation_exprs, valuation_tree, valuation_values}
pub use Rattle.kc_located_reasons.specs.LocatedNeeds.{at_place, lacking_at, located_lacking}
pub use Rattle.kc_located_reasons.specs.between.PartsView.{IsPartThere, located_part_view, located_parts_view}
pub use Rattle.kc_located_reasons.specs.checker.PartLists.{part_at}
pub use Rattle.kc_located_reasons.specs.declared.located_parts.LocatedPart.{LocatedPart}
pub use Rattle.kc_reasons.specs.between.Parts.{parts_view}
pub use Rattle.kc_reasons_model.specs.Conjuncts.{Part, lacking}
pub use Rattle.kc_value.specs.Tri.{is_n}
pub use Rattle.kc_rules_model.specs.SymbolValues.{condition, environment}
pub use Rattle.kc_symbol_lines.specs.between.LinesView.{all_located, each_located, located_view, position_view}
pub use Rattle.kc_value.specs.declared.tri.Tri.{Tri}

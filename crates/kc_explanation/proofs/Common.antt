-- The names that most proofs of this crate cite, passed on from one place. Declares nothing.
pub use Rattle.std.proofs.Common.{List, Some, [], ap, append_assoc, arith, drop, false, map, refl, sym, true, ℕ, ◌++◌, ◌∙◌, ◌∷◌, ◌≡◌}
pub use Rattle.std.proofs.lemmas.List.{append-nil}
pub use Rattle.std.proofs.lemmas.Result.{on_ok_weaker}
pub use Rattle.std.specs.Prelude.{codes, slice_get}
pub use Rattle.kc_dotconfig_model.specs.declared.format.Strings.{Strings}
pub use Rattle.kc_evaluation.specs.checker.ValuationView.{valuation_exprs, valuation_tree, valuation_values}
pub use Rattle.kc_explanation.specs.Located.{located_forcing_lines}
pub use Rattle.kc_explanation.specs.between.ReasonPlacesView.{places_view}
pub use Rattle.kc_explanation.specs.between.SpelledTokens.{lexemes_of}
pub use Rattle.kc_explanation.specs.checker.Contexts.{exprs_of, tree_of, values_of}
pub use Rattle.kc_explanation.specs.checker.PartLines.{joined_parts, needed_lines, part_lines}
pub use Rattle.kc_explanation.specs.checker.SpellingWalk.{is_enclosed, spelling_in_reverse}
pub use Rattle.kc_expr.specs.between.Arena.{Exprs, node_expr}
pub use Rattle.kc_located_reasons.specs.between.PartsView.{located_alternatives_view}
pub use Rattle.kc_reasons.specs.between.ReasonsView.{reasons_view}
pub use Rattle.kc_rules_model.specs.SymbolValues.{environment}
pub use Rattle.kc_rules_model.specs.declared.values.UnitValue.{UnitValue}
pub use Rattle.kc_symbol_lines.specs.between.LinesView.{position_view, symbol_lines_view}
pub use Rattle.kc_tree.specs.between.Views.{symbol_view}
pub use Rattle.kc_tree_model.specs.Blocks.{Position}
pub use Rattle.kc_tree_model.specs.Trees.{Symbol, Tree}

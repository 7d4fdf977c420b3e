-- The names that most proofs of this crate cite, passed on from one place. Declares nothing.
pub use Rattle.std.proofs.Common.{All, Bool, List, Some, [], ap, append-nil, append_assoc, arith, cond, drop, false, length, map, refl, subst, suc, sym, take, true, zero, ℕ, ◌++◌, ◌+◌, ◌-◌, ◌<◌, ◌==◌, ◌||◌, ◌∙◌, ◌∷◌, ◌≡◌, ◌≤◌}
pub use Rattle.std.proofs.lemmas.Grind.{flat_map-append}
pub use Rattle.std.proofs.lemmas.List.{length-map, map-append}
pub use Rattle.std.proofs.lemmas.Option.{slice_get_within}
pub use Rattle.std.proofs.lemmas.Result.{on_ok_weaker}
pub use Rattle.std.specs.Global.{Vec}
pub use Rattle.std.specs.List.{list_any, range_with_len}
pub use Rattle.std.specs.Prelude.{Option, codes, flat_map, option_map, slice_get, slice_index, unwrap_or}
pub use Rattle.kc_config.specs.ConfigStates.{tree_in}
pub use Rattle.kc_config_reasons.specs.between.Places.{overridden_view}
pub use Rattle.kc_config_reasons.specs.declared.places.Overridden.{Overridden}
pub use Rattle.kc_dotconfig_model.specs.ConfigLines.{LineMeaning}
pub use Rattle.kc_dotconfig_model.specs.MissedAssignments.{missed}
pub use Rattle.kc_evaluation.specs.checker.ValuationView.{valuation_exprs, valuation_tree, valuation_values}
pub use Rattle.kc_explanation.proofs.ExplanationLemmas.{joined_three}
pub use Rattle.kc_explanation.specs.Located.{place_text}
pub use Rattle.kc_expr.specs.between.Arena.{Exprs}
pub use Rattle.kc_reasons.specs.between.ReasonsView.{reasons_view}
pub use Rattle.kc_reasons.specs.declared.reasons.SymbolReasons.{SymbolReasons}
pub use Rattle.kc_reasons_model.specs.AssigningLines.{assigning_place}
pub use Rattle.kc_reasons_model.specs.PlainReasons.{PlainReasons, wanted_by}
pub use Rattle.kc_reasons_model.specs.Reasons.{value_text}
pub use Rattle.kc_reasons_model.specs.SymbolLines.{SymbolLines}
pub use Rattle.kc_rules.specs.between.SettledViews.{tree_model_of}
pub use Rattle.kc_rules_model.specs.SymbolValues.{value_of_symbol}
pub use Rattle.kc_rules_model.specs.declared.values.UnitValue.{UnitValue}
pub use Rattle.kc_symbol_lines.specs.between.LinesView.{symbol_lines_view}
pub use Rattle.kc_tree.specs.between.GroupedItems.{items_at, items_of}
pub use Rattle.kc_tree.specs.between.Views.{symbol_view}
pub use Rattle.kc_tree_model.proofs.Consistency.Lists.{map-get}
pub use Rattle.kc_tree_model.specs.Blocks.{Group}
pub use Rattle.kc_tree_model.specs.TreeLookup.{unit_of}
pub use Rattle.kc_tree_model.specs.Trees.{Symbol, Tree}
pub use Rattle.kc_value.specs.Lines.{pieces}
pub use Rattle.kmin_explain.proofs.EachOnce.{range_more}
pub use Rattle.kmin_explain.proofs.ReasonTexts.{same_at}
pub use Rattle.kmin_explain.proofs.SymbolTexts.{no_more_text, one_more_text, symbol_there}
pub use Rattle.kmin_explain.specs.Explanations.{SourcesModel, reasons_of}
pub use Rattle.kmin_explain.specs.between.Sources.{AreSourcesOf, config_of, sources_model}
pub use Rattle.kmin_missed.specs.MissedCauses.{causes_of, name_row, symbols_with}
pub use Rattle.kmin_missed.specs.MissedLines.{cause_at, cause_by, in_one_line, missed_row, missed_rows, missed_rows_at}
pub use Rattle.kmin_missed.specs.UnmetLines.{first_place, unmet_row_at, unmet_row_by}
pub use Rattle.kmin_missed.specs.checker.CauseGroups.{AreCauses, AreWithin, IsAdded, rows_of_number, sizes_in, texts_in}
pub use Rattle.kmin_missed.specs.declared.missed_causes.Causes.{Causes}

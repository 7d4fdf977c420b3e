-- The names that most proofs of this crate cite, passed on from one place. Declares nothing.
pub use Rattle.std.proofs.Common.{All, Bool, List, None, Option, Some, [], ap, append-nil, append_assoc, arith, cond, drop, false, get_or, length, map, not, refl, subst, suc, sym, take, true, zero, ℕ, ◌++◌, ◌+◌, ◌<◌, ◌∙◌, ◌∷◌, ◌≡◌, ◌≤◌}
pub use Rattle.std.proofs.lemmas.List.{at_drop_more}
pub use Rattle.std.proofs.lemmas.List.Elements.{All-cons, All-nil}
pub use Rattle.std.proofs.lemmas.Result.{IfOk-weaker, on_ok_weaker}
pub use Rattle.std.specs.Borrow.{Bor}
pub use Rattle.std.specs.Global.{Vec}
pub use Rattle.std.specs.List.{cons_option, filter_map, list_any, range_with_len}
pub use Rattle.std.specs.Prelude.{IsAscii, find, flat_map, is_some, option_map, slice_get, unwrap_or}
pub use Rattle.kc_config.specs.ConfigStates.{tree_in}
pub use Rattle.kc_config_reasons.specs.between.Places.{overridden_view, place_view}
pub use Rattle.kc_config_reasons.specs.declared.places.Overridden.{Overridden}
pub use Rattle.kc_dotconfig_model.specs.ConfigLines.{LineMeaning}
pub use Rattle.kc_dotconfig_model.specs.between.Prefixes.{prefix_bytes}
pub use Rattle.kc_evaluation.specs.checker.ValuationView.{valuation_exprs, valuation_tree, valuation_values}
pub use Rattle.kc_explanation.specs.Located.{ReasonPlaces, located_details_at, located_first_line}
pub use Rattle.kc_expr.specs.between.Arena.{Exprs, node_expr}
pub use Rattle.kc_reasons.specs.between.Parts.{alternatives_view, parts_view}
pub use Rattle.kc_reasons.specs.between.ReasonsView.{reasons_view}
pub use Rattle.kc_reasons.specs.declared.low_parts.LowPart.{LowPart}
pub use Rattle.kc_reasons_model.specs.AssigningLines.{assigning_place}
pub use Rattle.kc_reasons_model.specs.Blame.{blamed}
pub use Rattle.kc_reasons_model.specs.PlainReasons.{PlainReasons, wanted_by}
pub use Rattle.kc_reasons_model.specs.SymbolLines.{SymbolLines}
pub use Rattle.kc_reasons_model.specs.declared.cases.Case.{Case}
pub use Rattle.kc_rules.specs.between.SettledViews.{tree_model_of}
pub use Rattle.kc_rules_model.specs.SymbolValues.{environment}
pub use Rattle.kc_rules_model.specs.declared.values.UnitValue.{UnitValue}
pub use Rattle.kc_symbol_lines.specs.between.LinesView.{symbol_lines_view}
pub use Rattle.kc_tree.specs.TreeModel.{TreeModel}
pub use Rattle.kc_tree.specs.between.Views.{symbol_view}
pub use Rattle.kc_tree_model.specs.Blocks.{Group}
pub use Rattle.kc_tree_model.specs.TreeLookup.{symbol_named, unit_of}
pub use Rattle.kc_tree_model.specs.Trees.{Symbol, Tree}
pub use Rattle.kc_value.specs.declared.tri.Tri.{Tri}
pub use Rattle.kmin_explain.specs.Deep.{blamed_in, blamed_of, next_of}
pub use Rattle.kmin_explain.specs.Explanations.{SourcesModel, asked_line, asked_lines, explained_at, explained_by, explained_in, is_hindered_at, listed_reasons, overridden_line, reason_places, reasons_of}
pub use Rattle.kmin_explain.specs.Names.{each_once, each_once_after, is_unknown, symbol_meant}
pub use Rattle.kmin_explain.specs.between.Sources.{AreSourcesOf, config_of, sources_model}
pub use Rattle.kmin_explain.specs.checker.BlamedWalk.{blamed_in_reverse}
pub use Rattle.kmin_explain.specs.checker.Marks.{AreMarked, with_meant}

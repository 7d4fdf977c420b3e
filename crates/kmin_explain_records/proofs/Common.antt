-- The names that most proofs of this crate cite, passed on from one place. Declares nothing.
pub use Rattle.std.proofs.Common.{All, Bool, List, None, Option, Some, [], ap, arith, false, length, map, refl, subst, sym, take, true, ℕ, ◌++◌, ◌<◌, ◌||◌, ◌∙◌, ◌∷◌, ◌≡◌, ◌≤◌}
pub use Rattle.std.proofs.lemmas.List.{length-map}
pub use Rattle.std.proofs.lemmas.Result.{IfOk-weaker}
pub use Rattle.std.specs.Global.{Vec}
pub use Rattle.std.specs.List.{filter, range_with_len}
pub use Rattle.std.specs.Prelude.{codes, flat_map, option_map, slice_get}
pub use Rattle.kc_config.specs.ConfigStates.{tree_in}
pub use Rattle.kc_config_reasons.specs.between.Places.{overridden_view, place_view}
pub use Rattle.kc_config_reasons.specs.declared.places.Overridden.{Overridden}
pub use Rattle.kc_dotconfig_model.specs.ConfigLines.{LineMeaning}
pub use Rattle.kc_evaluation.specs.checker.ValuationView.{valuation_exprs, valuation_tree, valuation_values}
pub use Rattle.kc_explanation.specs.Asked.{asked_value}
pub use Rattle.kc_explanation.specs.Explained.{is_without_prompt, spelled_with_values}
pub use Rattle.kc_explanation.specs.between.ReasonPlacesView.{places_view}
pub use Rattle.kc_expr.specs.between.Arena.{node_expr}
pub use Rattle.kc_located_reasons.specs.between.PartsView.{located_part_view, located_parts_view}
pub use Rattle.kc_located_reasons.specs.declared.located_parts.LocatedPart.{LocatedPart}
pub use Rattle.kc_reasons.specs.between.ReasonsView.{reasons_view}
pub use Rattle.kc_reasons_model.specs.AssigningLines.{AssigningPlace, assigning_place}
pub use Rattle.kc_reasons_model.specs.OverriddenLines.{overridden, places_of}
pub use Rattle.kc_reasons_model.specs.PlainReasons.{PlainReasons, wanted_by}
pub use Rattle.kc_reasons_model.specs.Reasons.{name_of_symbol, value_text}
pub use Rattle.kc_reasons_model.specs.SymbolLines.{SymbolLines}
pub use Rattle.kc_reasons_model.specs.declared.cases.Case.{Case}
pub use Rattle.kc_reasons_model.specs.declared.cases.Hindrance.{Hindrance}
pub use Rattle.kc_rules.specs.between.SettledViews.{tree_model_of}
pub use Rattle.kc_rules_model.specs.SymbolValues.{environment, value_of_symbol}
pub use Rattle.kc_rules_model.specs.declared.values.UnitValue.{UnitValue}
pub use Rattle.kc_symbol_lines.specs.between.LinesView.{position_view, symbol_lines_view}
pub use Rattle.kc_tree.specs.TreeModel.{TreeModel}
pub use Rattle.kc_tree.specs.between.Views.{reverse_dependency_view, symbol_view}
pub use Rattle.kc_tree_model.specs.Blocks.{Group}
pub use Rattle.kc_tree_model.specs.TreeLookup.{unit_of}
pub use Rattle.kc_tree_model.specs.Trees.{ReverseDependency, Symbol, Tree}
pub use Rattle.kc_value.specs.declared.value.Kind.{Kind}
pub use Rattle.kmin_explain.specs.Explanations.{SourcesModel, reason_places}
pub use Rattle.kmin_explain.specs.between.Sources.{AreSourcesOf, config_of, sources_model}
pub use Rattle.kmin_explain_records.specs.ListedMissed.{is_listed, is_overridden}
pub use Rattle.kmin_explain_records.specs.SymbolRecords.{alternatives_json, asked_json, asked_list, asked_members, deciding_json, explained_as_json_at, forcing_json, forcing_list, forcing_members, given_members, lacking_members, needs_json, overridden_json, part_json, parts_json, place_if}
pub use Rattle.kmin_explain_records.specs.SymbolRecords.{position_members, record_members, records_in}
pub use Rattle.kmin_messages.proofs.WriterSteps.{and_last, and_then, wrote}
pub use Rattle.kmin_messages.specs.between.MessageViews.{AppendsTokens}
pub use Rattle.kmin_records.proofs.JsonLists.{all_written, as_end, as_last, as_tokens, last_write, nothing_more, object_is, one_more_written, viewed_array}
pub use Rattle.kmin_records.specs.JsonValues.{array_of, object_of, or_null, place_members, text_json}
pub use Rattle.kmin_records.specs.between.RecordTokens.{list_tokens}
pub use Rattle.json.specs.Json.{Json, string}
pub use Rattle.json.specs.Tree.{json_tokens}

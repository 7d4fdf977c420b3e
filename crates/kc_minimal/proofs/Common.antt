-- The names that most proofs of this crate cite, passed on from one place. Declares nothing.
pub use Rattle.std.proofs.Common.{Bool, List, None, Option, Some, [], ap, arith, cond, drop, false, filter, get_or, inl, inr, length, map, not, refl, replicate, rules, subst, suc, sym, take, true, zero, ℕ, ◌&&◌, ◌++◌, ◌+◌, ◌-◌, ◌<◌, ◌∙◌, ◌∷◌, ◌≡◌, ◌≤◌}
pub use Rattle.std.proofs.lemmas.Grind.{common_steps}
pub use Rattle.std.proofs.lemmas.List.{append-nil, map-append}
pub use Rattle.std.proofs.lemmas.List.Elements.{filter-append}
pub use Rattle.std.proofs.lemmas.Result.{IfOk-from_err, IfOk-weaker, on_ok_weaker}
pub use Rattle.std.specs.Global.{Vec}
pub use Rattle.std.specs.List.{cons_option, filter_map, flat_map, range_with_len}
pub use Rattle.std.specs.Option.{option_map}
pub use Rattle.std.specs.Prelude.{slice_get, unwrap_or}
pub use Rattle.kc_config.specs.ConfigStates.{Configured, IsSolved, tree_in}
pub use Rattle.kc_dotconfig_model.specs.Formats.{FileFormat}
pub use Rattle.kc_dotconfig_model.specs.OtherChoices.{has_no_version, last_line, lines_of, other_places, place_of, placed_from}
pub use Rattle.kc_dotconfig_model.specs.PrefixGrammar.{is_name_prefix}
pub use Rattle.kc_dotconfig_model.specs.between.Formats.{file_format}
pub use Rattle.kc_dotconfig_model.specs.declared.choice_line.ChoiceLine.{ChoiceLine}
pub use Rattle.kc_minimal.specs.between.DifferenceViews.{difference_view}
pub use Rattle.kc_minimal.specs.checker.Drafts.{IsDraft}
pub use Rattle.kc_minimal.specs.checker.LineGroups.{by_group, lines_at}
pub use Rattle.kc_minimal.specs.declared.full.Draft.{Draft}
pub use Rattle.kc_minimal_model.specs.CanonicalText.{IsCanonicalText}
pub use Rattle.kc_minimal_model.specs.Differences.{difference_at}
pub use Rattle.kc_minimal_model.specs.FileValues.{Loads}
pub use Rattle.kc_minimal_model.specs.FullFile.{full_file}
pub use Rattle.kc_minimal_model.specs.MinimalFile.{has_line, minimal_file}
pub use Rattle.kc_minimal_model.specs.SymbolLine.{ended_line}
pub use Rattle.kc_rules.specs.between.SettledViews.{profile_of, tree_model_of, tree_of_settled}
pub use Rattle.kc_rules.specs.declared.rules.Settled.{Settled}
pub use Rattle.kc_rules_model.specs.Reports.{is_written}
pub use Rattle.kc_rules_model.specs.Rule.{rule}
pub use Rattle.kc_rules_model.specs.SymbolValues.{value_of_symbol}
pub use Rattle.kc_rules_model.specs.declared.profile.Profile.{Profile}
pub use Rattle.kc_rules_model.specs.declared.values.UnitValue.{UnitValue}
pub use Rattle.kc_solver.specs.Solutions.{UniquelySolves}
pub use Rattle.kc_tree_model.specs.Trees.{Tree}

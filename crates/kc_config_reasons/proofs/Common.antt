-- The names that most proofs of this crate cite, passed on from one place. Declares nothing.
pub use Rattle.std.proofs.Common.{Bool, List, None, Option, Some, [], ap, arith, cond, drop, false, get_or, length, map, refl, subst, suc, sym, true, ℕ, ◌++◌, ◌+◌, ◌-◌, ◌<◌, ◌∙◌, ◌∷◌, ◌≡◌}
pub use Rattle.std.specs.List.{AllZip}
pub use Rattle.std.specs.Option.{option_copied, option_or}
pub use Rattle.std.specs.Prelude.{Err, IfOk, Ok, OnOk, Result, option_map, reverse}
pub use Rattle.std.specs.Str.{is_utf8}
pub use Rattle.kc_config.specs.ConfigStates.{tree_in}
pub use Rattle.kc_config_reasons.specs.between.FileLines.{KeepsLines, later_line, line_at, line_kept, line_view}
pub use Rattle.kc_config_reasons.specs.between.Places.{overridden_view, place_view}
pub use Rattle.kc_config_reasons.specs.checker.LineSteps.{AreBelow, Keeps, NumbersBelow}
pub use Rattle.kc_config_reasons.specs.checker.PlaceSteps.{overridden_at, place_asking_otherwise, place_at, place_kept, places_kept}
pub use Rattle.kc_config_reasons.specs.declared.file_lines.AskingLine.{AskingLine}
pub use Rattle.kc_config_reasons.specs.declared.file_lines.FileLines.{FileLines}
pub use Rattle.kc_config_reasons.specs.declared.places.AskingPlace.{AskingPlace}
pub use Rattle.kc_config_reasons.specs.declared.places.Overridden.{Overridden}
pub use Rattle.kc_dotconfig.specs.between.MeaningViews.{meaning_view}
pub use Rattle.kc_dotconfig.specs.declared.meanings.Meaning.{Meaning}
pub use Rattle.kc_dotconfig_model.specs.ConfigLines.{LineMeaning, Means, assigns, assigns_escaped, silent, unchosen}
pub use Rattle.kc_dotconfig_model.specs.Formats.{FileFormat}
pub use Rattle.kc_dotconfig_model.specs.between.Formats.{file_format}
pub use Rattle.kc_reasons_model.specs.AssigningLines.{assigning_place, line_giving, said_to, user_by_line}
pub use Rattle.kc_reasons_model.specs.OverriddenLines.{overridden}
pub use Rattle.kc_rules.specs.between.SettledViews.{profile_of, tree_model_of, tree_of_settled}
pub use Rattle.kc_rules_model.specs.declared.values.UserValue.{UserValue}
pub use Rattle.kc_solver.specs.Solutions.{user_of}
pub use Rattle.kc_tree.specs.TreeModel.{TreeModel}
pub use Rattle.kc_tree_model.specs.LogicalLines.{without_white_end}
pub use Rattle.kc_tree_model.specs.TreeLookup.{unit_of}
pub use Rattle.kc_tree_model.specs.Trees.{Symbol, Tree}

-- The names that most proofs of this crate cite, passed on from one place. Declares nothing.
pub use Rattle.std.proofs.Common.{Bool, Err, IfErr, List, None, Ok, Option, Result, Some, [], ap, arith, false, get_or, inl, inr, length, map, refl, rules, subst, suc, sym, take, true, ℕ, ◌++◌, ◌+◌, ◌<◌, ◌∙◌, ◌∷◌, ◌≡◌, ◌≤◌, ◌⊎◌}
pub use Rattle.std.proofs.lemmas.Grind.{common_steps, elements}
pub use Rattle.std.proofs.lemmas.List.{take_all}
pub use Rattle.std.specs.List.{All}
pub use Rattle.std.specs.Map.{lookup}
pub use Rattle.std.specs.Prelude.{IfOk, bytes_eq, if◌then◌else◌, option_map, string_bytes, unwrap_or, ◌≢◌}
pub use Rattle.kc_macros_model.specs.AnswerFiles.{RecordedAnswers}
pub use Rattle.kc_parser.specs.between.MemoryFaults.{no_memory}
pub use Rattle.kc_solver.proofs.ErrorExits.{no_value}
pub use Rattle.kc_tokens.specs.declared.language.Language.{Language}
pub use Rattle.kc_tree.specs.TreeModel.{TreeModel}
pub use Rattle.kc_tree_model.specs.TreeFiles.{Files, file_at, with_file, with_path}
pub use Rattle.kc_tree_model.specs.declared.fault.TreeFault.{TreeFault}
pub use Rattle.kc_tree_model.specs.declared.fault.TreeKind.TheVariants.{OutOfMemory}
pub use Rattle.kc_value.specs.FileContents.{FileContent, OpensAs}
pub use Rattle.kmin_expansions.specs.JobTexts.{AreTextsOfJob, TreeTexts}
pub use Rattle.kmin_expansions.specs.between.ExpansionStops.{StopsExpanding}
pub use Rattle.kmin_inputs.proofs.FailureCounts.{rises_later}
pub use Rattle.kmin_inputs.specs.FileContents.{AreTextsBelow, MatchContentStart, Surroundings, path_below}
pub use Rattle.kmin_options.specs.Jobs.{Settings, expansion_view}
pub use Rattle.kmin_report.proofs.Results.{if_err, if_err_map, if_ok_map, memory_err}
pub use Rattle.kmin_report.proofs.WriterLemmas.{lines_one}
pub use Rattle.kmin_report.specs.Reports.{ErrorLine}
pub use Rattle.kmin_report.specs.StandardError.{SpelledBytes, TakesLines, none}
pub use Rattle.kmin_report.specs.between.RunErrors.{status_of}
pub use Rattle.kmin_report.specs.declared.run_error.RunError.{RunError}
pub use Rattle.kmin_trees.specs.LinedTrees.{name_text, names_by_number}
pub use Rattle.kmin_trees.specs.MissingFiles.{LacksOnlyMissing, MayBeMissing, MissesOnlyMissing}
pub use Rattle.kmin_trees.specs.Stops.{StopsAtTree}
pub use Rattle.kmin_trees.specs.between.FileNames.{names_of, texts_of}
pub use Rattle.kmin_trees.specs.between.JobTrees.{IsJobTree, plain_texts}
pub use Rattle.kmin_trees.specs.between.TreeStops.{StopsAtTexts, at_texts, for_memory}

-- The names that most proofs of this crate cite, passed on from one place. Declares nothing.
pub use Rattle.std.proofs.Common.{Bool, Err, IfErr, IfOk, IsTrue, List, None, Ok, Option, Some, Vec, [], ap, append-nil, arith, codes, cond, false, inl, inr, length, length-append, map, option_map, refl, rules, subst, sym, take, true, ℕ, ◌++◌, ◌==◌, ◌∙◌, ◌∷◌, ◌≡◌, ◌≢◌, ◌≤◌, ◌⊎◌}
pub use Rattle.std.proofs.lemmas.Grind.{common_steps}
pub use Rattle.std.specs.Borrow.{Bor}
pub use Rattle.std.specs.Io.KnownBytes.{Appends}
pub use Rattle.std.specs.List.{flat_map}
pub use Rattle.std.specs.declared.alloc.Global.{Global}
pub use Rattle.kc_config.specs.ConfigStates.{tree_in}
pub use Rattle.kc_dotconfig_model.specs.ConfigFiles.{empty_assignment}
pub use Rattle.kc_files.specs.TextViews.{items_of, texts_of}
pub use Rattle.kc_files.specs.TreeContents.{HasRisen}
pub use Rattle.kc_rules.specs.between.SettledViews.{profile_of, tree_of_settled}
pub use Rattle.kc_rules.specs.declared.rules.Settled.{Settled}
pub use Rattle.kc_solver.proofs.ErrorExits.{no_value}
pub use Rattle.kc_value.specs.Lines.{HasWholeLines}
pub use Rattle.kmin_cli.specs.Parses.{AreReadAs}
pub use Rattle.kmin_disk.specs.Disks.{Disk}
pub use Rattle.kmin_expansions.specs.JobTexts.{AreTextsOfJob, TreeTexts}
pub use Rattle.kmin_expansions.specs.WantedQuestions.{AreAsked, StopsWanting, question_line, questions_text}
pub use Rattle.kmin_report.proofs.Statuses.{fault_at_most_six, of_fault, output_at_most_six, output_not_two}
pub use Rattle.kmin_inputs.proofs.FailureCounts.{rises_later}
pub use Rattle.kmin_inputs.specs.FileContents.{Surroundings}
pub use Rattle.kmin_inputs.specs.ListFiles.{malformed_line}
pub use Rattle.kmin_inputs.specs.WordFiles.{Represent}
pub use Rattle.kmin_options.specs.Jobs.{Questions, Settings, Task, questions_view, settings_view, task_view, tidy_job_view}
pub use Rattle.kmin_outputs.proofs.ErrorExits.{value_is_no_error, with_error}
pub use Rattle.kmin_outputs.proofs.JobOutputs.{lines_kept}
pub use Rattle.kmin_outputs.specs.Outputs.{HasOutput}
pub use Rattle.kmin_report.proofs.Results.{if_err, if_err_map, memory_err}
pub use Rattle.kmin_report.proofs.WriterLemmas.{lines_append, lines_one}
pub use Rattle.kmin_report.specs.Reports.{ErrorLine, last_lines, output_line}
pub use Rattle.kmin_report.specs.StandardError.{SpelledBytes, TakesLine, TakesLines, none}
pub use Rattle.kmin_report.specs.between.RunErrors.{status_of}
pub use Rattle.kmin_report.specs.declared.run_error.RunError.{RunError}
pub use Rattle.kmin_report.specs.declared.run_error.RunError.TheVariants.{Configuration, Failed, Memory, Tree}
pub use Rattle.kmin_run.specs.BundleOutputs.{bundle_content}
pub use Rattle.kmin_run.specs.Bundles.{IsBundle, has_no_marker}
pub use Rattle.kmin_run.specs.Runs.{BundleEnds, stopped}
pub use Rattle.kmin_run.specs.States.{Input, Outputs, RunState}
pub use Rattle.kmin_run.specs.TidyRuns.{at_list}
pub use Rattle.kmin_trees.specs.AcceptedTrees.{AreAccepted}
pub use Rattle.kmin_trees.specs.between.TreeStops.{StopsAtTexts, for_memory}

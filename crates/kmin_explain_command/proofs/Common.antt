-- The names that most proofs of this crate cite, passed on from one place. Declares nothing.
pub use Rattle.std.proofs.Common.{All, Bool, Err, IfErr, IfOk, List, None, Ok, Option, Result, [], ap, append-nil, append_assoc, arith, false, inl, inr, length, map, refl, rules, subst, sym, take, true, ℕ, ◌++◌, ◌<◌, ◌∙◌, ◌∷◌, ◌≡◌, ◌≤◌}
pub use Rattle.std.proofs.lemmas.Result.{IfOk-weaker}
pub use Rattle.std.specs.Borrow.{Bor}
pub use Rattle.std.specs.List.{AllZip, range_with_len}
pub use Rattle.kc_config.specs.ConfigStates.{IsSolved, tree_in}
pub use Rattle.kc_config_reasons.specs.between.FileLines.{KeepsLines}
pub use Rattle.kc_config_reasons.specs.declared.file_lines.FileLines.{FileLines}
pub use Rattle.kc_dotconfig_model.specs.between.Notices.{notice_pair}
pub use Rattle.kc_dotconfig.specs.declared.fragment.Fragment.{Fragment}
pub use Rattle.kc_dotconfig_model.specs.ConfigFiles.{empty_assignment}
pub use Rattle.kc_dotconfig_model.specs.ConfigLines.{LineMeaning}
pub use Rattle.kc_dotconfig_model.specs.Formats.{FileFormat}
pub use Rattle.kc_dotconfig_model.specs.OtherChoices.{other_choices}
pub use Rattle.kc_dotconfig_model.specs.between.Formats.{file_format}
pub use Rattle.kc_rules.specs.between.SettledViews.{profile_of, tree_model_of, tree_of_settled}
pub use Rattle.kc_rules.specs.declared.rules.Settled.{Settled}
pub use Rattle.kc_solver.proofs.ErrorExits.{no_success, no_value}
pub use Rattle.kc_tree.specs.TreeModel.{TreeModel}
pub use Rattle.kc_tree_model.specs.Blocks.{Group}
pub use Rattle.kc_tree_model.specs.Trees.{Tree}
pub use Rattle.kc_value.specs.FileContents.{FileContent}
pub use Rattle.kmin_expansions.specs.JobTexts.{TreeTexts}
pub use Rattle.kmin_explain.specs.between.Sources.{config_of, sources_model}
pub use Rattle.kmin_explain_command.specs.Explains.{IsExplained, explained_text, missed_text, symbols_in, unknown_for}
pub use Rattle.kmin_explain_command.specs.Stops.{task_of}
pub use Rattle.kmin_explain_command.specs.between.Ends.{ExplainsOver, StopsOver}
pub use Rattle.kmin_explain_command.specs.between.LinedFiles.{AreLined, IsLinedFile}
pub use Rattle.kmin_explain_command.specs.between.Texts.{AreOfSources, StopsAfterFiles, paths_of_job, sources_of}
pub use Rattle.kmin_explain_command.specs.between.UnknownNames.{StopsAtName}
pub use Rattle.kmin_explain_command.specs.declared.lined_files.LinedFiles.{LinedFiles}
pub use Rattle.kmin_inputs.proofs.FailureCounts.{rises_later}
pub use Rattle.kmin_options.specs.Jobs.{explain_job_view, question_view, settings_view}
pub use Rattle.kmin_options.specs.declared.job.ExplainJob.{ExplainJob}
pub use Rattle.kmin_outputs.proofs.ErrorExits.{with_error}
pub use Rattle.kmin_outputs.proofs.JobOutputs.{lines_kept, status_at_most_one}
pub use Rattle.kmin_outputs.proofs.Sequences.{stopped_for_memory, stopped_path}
pub use Rattle.kmin_outputs.specs.Statuses.{status_of_list}
pub use Rattle.kmin_outputs.specs.Stops.{StopsAmongFiles}
pub use Rattle.kmin_outputs.specs.Strictness.{AllowsNotices}
pub use Rattle.kmin_outputs.specs.between.Comparisons.{AreNoticed}
pub use Rattle.kmin_outputs.specs.between.LoadResults.{lists_of}
pub use Rattle.kmin_outputs.specs.between.LoadStops.{StopsAtPath, StopsOverTree, load_lines}
pub use Rattle.kmin_outputs.specs.declared.verb_texts.JobOutput.{JobOutput}
pub use Rattle.kmin_report.proofs.Results.{if_err_map, if_ok_map, memory_err}
pub use Rattle.kmin_report.proofs.WriterLemmas.{lines_append}
pub use Rattle.kmin_report.specs.Reports.{ErrorLine, refused_line}
pub use Rattle.kmin_report.specs.StandardError.{SpelledBytes, TakesLines}
pub use Rattle.kmin_report.specs.between.RunErrors.{status_of}
pub use Rattle.kmin_report.specs.declared.run_error.RunError.{RunError}
pub use Rattle.kmin_trees.specs.LinedTrees.{IsLinedTree}
pub use Rattle.kmin_trees.specs.declared.lined_trees.LinedTree.{LinedTree}

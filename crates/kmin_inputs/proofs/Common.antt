-- The names that most proofs of this crate cite, passed on from one place. Declares nothing.
pub use Rattle.std.proofs.Common.{Bool, Err, List, None, Ok, OnOk, Option, Result, Some, [], ap, arith, false, get_or, inl, inr, length, map, refl, rules, subst, suc, sym, take, true, ℕ, ◌++◌, ◌+◌, ◌<◌, ◌∙◌, ◌∷◌, ◌≡◌, ◌≤◌, ◌⊎◌}
pub use Rattle.std.proofs.lemmas.List.{map-append, take_all}
pub use Rattle.std.specs.Borrow.{Bor}
pub use Rattle.std.specs.Option.{option_or}
pub use Rattle.std.specs.Prelude.{bytes_eq, if◌then◌else◌, is_some}
pub use Rattle.kc_answers.specs.ReadAnswers.{AreAnswersRefused, ReadsToEnd, end_of_file}
pub use Rattle.kc_files.specs.TextViews.{texts_of}
pub use Rattle.kc_files.specs.TreeContents.{HasRisen}
pub use Rattle.kc_macros_model.specs.AnswerFiles.{RecordedAnswers, complete, cut_by}
pub use Rattle.kc_macros_model.specs.Programs.{Answer}
pub use Rattle.kc_macros_model.specs.declared.fault.AnswersFault.{AnswersFault}
pub use Rattle.kc_macros_model.specs.declared.fault.AnswersKind.{AnswersKind}
pub use Rattle.kc_macros_model.specs.declared.fault.AnswersKind.TheVariants.{LineTooLong, Malformed, NotUtf8, OutOfMemory, Read, TooLarge, TooManyLines, TwoAnswers}
pub use Rattle.kc_tree_model.specs.Keywords.{keyword_in_table}
pub use Rattle.kc_value.proofs.KnownContents.{rest_of, whole_content}
pub use Rattle.kc_value.specs.FileContents.{FileContent, OpensAs}
pub use Rattle.kmin_cli.specs.Inputs.{inputs_named}
pub use Rattle.kmin_inputs.specs.AnswerStops.{answers_status}
pub use Rattle.kmin_inputs.specs.FileContents.{Surroundings, VariableContent}
pub use Rattle.kmin_inputs.specs.JobAnswers.{FilesRecord, defined_answer}
pub use Rattle.kmin_inputs.specs.ListFiles.{list_content, unread}
pub use Rattle.kmin_inputs.specs.WordFiles.{AreFilesRead}
pub use Rattle.kmin_inputs.specs.between.AnswerSteps.{AreLent}
pub use Rattle.kmin_inputs.specs.between.ReadFiles.{for_memory}
pub use Rattle.kmin_options.specs.Jobs.{definition_view, expansion_view}
pub use Rattle.kmin_report.proofs.Lists.{paths_at, paths_next}
pub use Rattle.kmin_report.proofs.Results.{if_err, if_err_map, memory_err}
pub use Rattle.kmin_report.proofs.WriterLemmas.{lines_append, lines_one}
pub use Rattle.kmin_report.specs.Reports.{ErrorLine}
pub use Rattle.kmin_report.specs.StandardError.{SpelledBytes, TakesLines, none}

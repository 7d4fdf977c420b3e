-- The names that most proofs of this crate cite, passed on from one place. Declares nothing.
pub use Rattle.std.proofs.Common.{Bool, Err, IfErr, IfOk, List, None, Ok, Option, Result, Some, [], ap, append-nil, arith, cond, false, inl, inr, length, map, refl, rules, subst, sym, take, true, ℕ, ◌++◌, ◌<◌, ◌∙◌, ◌∷◌, ◌≡◌, ◌≢◌, ◌≤◌, ◌⊎◌}
pub use Rattle.kc_dotconfig_model.specs.between.Notices.{notice_pair}
pub use Rattle.kc_dotconfig.specs.declared.fragment.Fragment.{Fragment}
pub use Rattle.kc_dotconfig_model.specs.between.Formats.{file_format}
pub use Rattle.kc_dotconfig_model.specs.declared.fault.LoadKind.{LoadKind}
pub use Rattle.kc_dotconfig_model.specs.declared.fault.LoadKind.TheVariants.{OutOfMemory, Read}
pub use Rattle.kc_rules.specs.between.SettledViews.{tree_of_settled}
pub use Rattle.kc_rules.specs.declared.rules.Settled.{Settled}
pub use Rattle.kc_tree_model.specs.Trees.{Tree}
pub use Rattle.kc_value.proofs.KnownContents.{whole_content}
pub use Rattle.kc_value.specs.FileContents.{AreKnownBytes}
pub use Rattle.kc_value.specs.Streams.{one_failure_more}
pub use Rattle.kc_value.specs.declared.limits.TheConstants.{MAX_CONFIG_BYTES}
pub use Rattle.kc_value.specs.declared.reader_bytes.ReadEnd.TheVariants.{AtEnd}
pub use Rattle.kmin_disk.proofs.Places.{Stays-refl, same_place_or_other}
pub use Rattle.kmin_disk.specs.Contents.{Content, file, nothing, readable, special, unfinished}
pub use Rattle.kmin_disk.specs.Disks.{Disk, DiskState, FailsOnce, History, MayFailOnce, content_at, newest, with_newest}
pub use Rattle.kmin_records.specs.declared.output_form.OutputForm.{OutputForm}
pub use Rattle.kmin_report.proofs.Results.{if_err_map, if_ok_map}
pub use Rattle.kmin_report.proofs.WriterLemmas.{lines_append, lines_one}
pub use Rattle.kmin_report.specs.Reports.{ErrorLine, fault_line, tree_notice_line}
pub use Rattle.kmin_report.specs.StandardError.{TakesLines, none}
pub use Rattle.kmin_tidy.specs.MinimalFiles.{HasMinimalFile, IsReadAs, IsReadAt, MayBeRead}
pub use Rattle.kmin_tidy.specs.Options.{Notices, TidySettings, refuses_notices, settings_of}
pub use Rattle.kmin_tidy.specs.Promises.{AreTidy, IsKept, IsMinimised, IsTidy}
pub use Rattle.kmin_tidy.specs.Refusals.{IsNotAccepted}
pub use Rattle.kmin_tidy.specs.Reports.{file_line, notice_lines}
pub use Rattle.kmin_tidy.specs.Runs.{DoneFile, HoldsMinimalFile, Run, Tidies, one_more, paths_of}
pub use Rattle.kmin_tidy.specs.Steps.{Step, call_failed, minimal, names_taken, not_regular, noticed, replaced, shown, unsynced, unwritten}
pub use Rattle.kmin_tidy.specs.checker.FileResults.{IsRewritten, StopsFile, StopsRun}
pub use Rattle.kmin_tidy.specs.checker.Readings.{IsFaulty, IsFragmentOf, for_memory, places_noted, refused, unopened, unread}
pub use Rattle.kmin_tidy.specs.checker.ReportLines.{problem_lines, report_lines}
pub use Rattle.kmin_tidy.specs.checker.Statuses.{status_after}
pub use Rattle.kmin_tidy.specs.declared.outcome.FileOutcome.{FileOutcome}
pub use Rattle.kmin_tidy.specs.declared.outcome.FileOutcome.TheVariants.{Failed, Minimal, NotMinimal, Refused}
pub use Rattle.kmin_tidy.specs.declared.report.FileReport.{FileReport}
pub use Rattle.kmin_tidy.specs.declared.report.Problem.{Problem}
pub use Rattle.kmin_tidy.specs.declared.stop.TidyStop.{TidyStop}
pub use Rattle.kmin_tidy.specs.declared.stop.TidyStop.TheVariants.{Memory}

-- One file of a run.
use Rattle.std.specs.Prelude.{◌≡◌, ◌≢◌, ℕ, true, false, List, [], ◌∷◌, ◌++◌}
use Rattle.kc_value.specs.Streams.{one_failure_more}
use Rattle.kmin_disk.specs.Contents.{IsOfKind}
use Rattle.kmin_disk.specs.Disks.{Disk, IsUnchanged, Replaces, content_at}
use Rattle.kmin_disk.specs.Replacements.{HasTakenName}
use Rattle.kmin_disk.specs.declared.kind.FileKind.TheVariants.{NotRegular}
use Rattle.kmin_tidy.specs.Options.{TidySettings, Notices, refuses_notices}
use Rattle.kmin_tidy.specs.MinimalFiles.{IsReadAt, HasNotices, Minimises, IsNotMinimal}
use Rattle.kmin_tidy.specs.Refusals.{IsNotAccepted}
use Rattle.kmin_tidy.specs.Reports.{file_line, notice_lines}
use Rattle.kmin_report.specs.Reports.{ErrorLine, write_line}
use Rattle.kmin_tidy.specs.declared.outcome.FileOutcome.{FileOutcome}
use Rattle.kmin_tidy.specs.declared.outcome.FileOutcome.TheVariants.{Minimal, NotMinimal, Refused, Failed}

-- The file at a path couldn't be replaced: a call failed, all names tried for the new file are in use, or the file isn't regular by
-- now.
pub data IsUnwritten (old new : Disk) (path : List ℕ) : Type 0 where
  call_failed : IsUnchanged old.state new.state → new.failures ≡ one_failure_more old.failures → IsUnwritten old new path
  names_taken : IsUnchanged old.state new.state → HasTakenName old.state path → new.failures ≡ old.failures
      → IsUnwritten old new path
  not_regular : IsUnchanged old.state new.state → IsOfKind (content_at old.state path) NotRegular
      → new.failures ≡ old.failures → IsUnwritten old new path

-- The file at a path was replaced by one of these bytes, and its folder couldn't be synced after it.
pub record IsUnsynced (old new : Disk) (path minimal_bytes : List ℕ) : Type 0 where
  pub replaced : Replaces old.state new.state path minimal_bytes
  pub failures : new.failures ≡ one_failure_more old.failures

-- What a run does with one file, whatever its other files are: the disk after it, its line of standard output, its lines of
-- standard error and its outcome.
pub data Step (s : TidySettings) (old new : Disk) (path line : List ℕ) (reports : List ErrorLine) (outcome : FileOutcome) : Type 0 where
  -- the file isn't accepted
  refused : (report : ErrorLine) → IsNotAccepted s old new path outcome report → line ≡ [] → reports ≡ report ∷ []
      → Step s old new path line reports outcome
  -- the file is refused for its notices
  noticed : (bytes : List ℕ) (notices : Notices) → IsReadAt s old.state path bytes → HasNotices s bytes notices
      → notices ≢ [] → refuses_notices s.options ≡ true → new ≡ old → line ≡ []
      → reports ≡ notice_lines s.tree path notices → outcome ≡ Refused → Step s old new path line reports outcome
  -- the file is minimal
  minimal : (bytes : List ℕ) (notices : Notices) → Minimises s old.state path bytes bytes notices → new ≡ old → line ≡ []
      → reports ≡ notice_lines s.tree path notices → outcome ≡ Minimal → Step s old new path line reports outcome
  -- the file isn't minimal, and files aren't replaced
  shown : (bytes minimal_bytes : List ℕ) (notices : Notices) → IsNotMinimal s old.state path bytes minimal_bytes notices
      → s.options.write ≡ false → new ≡ old → line ≡ file_line s.options.output_form path bytes minimal_bytes
      → reports ≡ notice_lines s.tree path notices → outcome ≡ NotMinimal → Step s old new path line reports outcome
  -- the file is replaced by its minimal file
  replaced : (bytes minimal_bytes : List ℕ) (notices : Notices) → IsNotMinimal s old.state path bytes minimal_bytes notices
      → s.options.write ≡ true → Replaces old.state new.state path minimal_bytes → new.failures ≡ old.failures
      → line ≡ file_line s.options.output_form path bytes minimal_bytes
      → reports ≡ notice_lines s.tree path notices → outcome ≡ Minimal → Step s old new path line reports outcome
  -- the file couldn't be replaced, and has no line
  unwritten : (bytes minimal_bytes : List ℕ) (notices : Notices) → IsNotMinimal s old.state path bytes minimal_bytes notices
      → s.options.write ≡ true → IsUnwritten old new path → line ≡ []
      → reports ≡ notice_lines s.tree path notices ++ write_line path ∷ [] → outcome ≡ Failed
      → Step s old new path line reports outcome
  -- the file is replaced by its minimal file, and its folder couldn't be synced
  unsynced : (bytes minimal_bytes : List ℕ) (notices : Notices) → IsNotMinimal s old.state path bytes minimal_bytes notices
      → s.options.write ≡ true → IsUnsynced old new path minimal_bytes → line ≡ file_line s.options.output_form path bytes minimal_bytes
      → reports ≡ notice_lines s.tree path notices ++ write_line path ∷ [] → outcome ≡ Failed
      → Step s old new path line reports outcome

-- Commands whose output goes to a file. `counted` and `counted_after` are how many calls on files failed before and after, without
-- those on the disk.
use Rattle.std.specs.Prelude.{◌≡◌, ◌≢◌, ℕ, List, [], ◌∷◌, ◌++◌, Some, string_bytes}
use Rattle.kmin_disk.specs.Contents.{IsOfKind, file, special}
use Rattle.kmin_disk.specs.Disks.{Disk, content_at}
use Rattle.kmin_disk.specs.Failures.{failures_of_update}
use Rattle.kmin_disk.specs.Updates.{Updates, UpdateLeaves}
use Rattle.kmin_disk.specs.declared.kind.FileKind.TheVariants.{NotRegular as is_not_regular}
use Rattle.kmin_disk.specs.declared.fault.ReplaceFault.{ReplaceFault}
use Rattle.kmin_disk.specs.declared.fault.ReplaceFault.TheVariants.{NotRegular, Left, OutOfMemory}
use Rattle.kmin_disk.specs.declared.fault.UpdateFault.{UpdateFault}
use Rattle.kmin_disk.specs.declared.fault.UpdateFault.TheVariants.{Unread, Replace}
use Rattle.kmin_report.specs.Reports.{ErrorLine, not_regular_line, write_line, left_line, last_lines}
use Rattle.kmin_options.specs.Jobs.{Settings, Task}
use Rattle.kmin_inputs.specs.FileContents.{Surroundings}
use Rattle.kmin_expansions.specs.JobTexts.{TreeTexts, AreTextsOfJob}
use Rattle.kmin_outputs.specs.Outputs.{HasOutput}
use Rattle.kmin_outputs.specs.Stops.{StopsBefore}

-- the lines of standard error for an output file that wasn't replaced, or not for good; none where memory ran out
abbrev pub replace_lines : (path : List ℕ) → ReplaceFault → List ErrorLine
replace_lines path NotRegular = not_regular_line path ∷ []
replace_lines path (Left new_path) = left_line (string_bytes new_path) ∷ []
replace_lines path OutOfMemory = []
replace_lines path fault = write_line path ∷ []

-- the lines of standard error for an output file that wasn't updated, or not for good; none where memory ran out
abbrev pub update_lines : (path : List ℕ) → UpdateFault → List ErrorLine
update_lines path Unread = write_line path ∷ []
update_lines path (Replace fault) = replace_lines path fault

-- the exit status for an output file that wasn't replaced, or not for good: 6 if memory ran out, and else 5
abbrev pub replace_status : ReplaceFault → ℕ
replace_status OutOfMemory = 6
replace_status fault = 5

-- the exit status for an output file that wasn't updated, or not for good: 6 if memory ran out, and 5 if not
abbrev pub update_status : UpdateFault → ℕ
update_status Unread = 5
update_status (Replace fault) = replace_status fault

-- The output file at a path has this text, from before or by a replacement. The path led to no link, folder, pipe or device, and
-- no read of the file failed, and no call that changes files.
pub record IsSaved (old new : Disk) (path text : List ℕ) : Type 0 where
  pub updates : Updates old.state new.state path text
  pub regular : content_at old.state path ≢ Some special
  pub unfailed : new.failures ≡ old.failures

-- The update of the output file at a path to this text ended with this fault. A file that had the text already is unchanged.
pub record IsUnsaved (old new : Disk) (path text : List ℕ) (fault : UpdateFault) : Type 0 where
  pub leaves : UpdateLeaves old.state new.state path text fault
  pub equal : content_at old.state path ≡ Some (file text) → new.state ≡ old.state
  pub not_regular : fault ≡ Replace NotRegular → IsOfKind (content_at old.state path) is_not_regular
  pub refused : content_at old.state path ≡ Some special → fault ≡ Replace NotRegular
  pub failures : new.failures ≡ failures_of_update old.failures fault

-- A command with an output file ends, with this status and these lines of standard error: the file has the output, or the command
-- ended without one and the disk is unchanged, or the file couldn't be updated.
pub data SaveEnds (known : Surroundings) (counted counted_after : ℕ) (settings : Settings) (task : Task) (path : List ℕ) (old new : Disk) (lines : List ErrorLine) (status : ℕ) : Type 0 where
  saved : (t : TreeTexts) (text : List ℕ) (notices : List ErrorLine) → AreTextsOfJob known settings t
      → HasOutput known.content settings t.texts task text status notices → IsSaved old new path text → lines ≡ t.lines ++ notices
      → SaveEnds known counted counted_after settings task path old new lines status
  before_output : (own : List ErrorLine) → StopsBefore known counted counted_after settings task status own → new ≡ old → lines ≡ own ++ last_lines status
      → SaveEnds known counted counted_after settings task path old new lines status
  at_file : (t : TreeTexts) (text : List ℕ) (output_status : ℕ) (notices : List ErrorLine) (fault : UpdateFault) → AreTextsOfJob known settings t
      → HasOutput known.content settings t.texts task text output_status notices → IsUnsaved old new path text fault → status ≡ update_status fault
      → lines ≡ ((t.lines ++ notices) ++ update_lines path fault) ++ last_lines status
      → SaveEnds known counted counted_after settings task path old new lines status

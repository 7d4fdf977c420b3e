-- The last writes of a run.
use Rattle.std.specs.Prelude.{◌≡◌, ◌<◌, ℕ, List, [], ◌∷◌, Option, length, take}
use Rattle.std.specs.Io.KnownBytes.{Appends}
use Rattle.kmin_report.specs.Reports.{ErrorLine, output_line}
use Rattle.kc_files.specs.TreeContents.{HasRisen}
use Rattle.kmin_tidy.specs.declared.stop.TidyStop.{TidyStop}
use Rattle.kmin_tidy.specs.declared.stop.TidyStop.TheVariants.{Memory, Left}
use Rattle.kmin_tidy.specs.declared.whole_run.RunResult.{RunResult}

-- the exit status of a run that ends early for this reason
abbrev pub status_of_stop : TidyStop → ℕ
status_of_stop Memory = 6
status_of_stop (Left new_path) = 5

-- the text of a run over all its files is written to standard output, whole, or in part since a write failed; then the run has
-- these last lines of standard error and this exit status
pub data IsWrittenOut (tidied : RunResult) (taken taken_after : Option (List ℕ)) (failed failed_after : ℕ) (reports : List ErrorLine) (status : ℕ) : Type 0
  where
    whole : Appends taken taken_after tidied.text.items → failed_after ≡ failed → reports ≡ [] → status ≡ tidied.status
        → IsWrittenOut tidied taken taken_after failed failed_after reports status
    part : (count : ℕ) → count < length tidied.text.items → Appends taken taken_after (take count tidied.text.items)
        → HasRisen failed failed_after → reports ≡ output_line ∷ [] → status ≡ 5
        → IsWrittenOut tidied taken taken_after failed failed_after reports status

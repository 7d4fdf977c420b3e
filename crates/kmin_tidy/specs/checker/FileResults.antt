-- Results of a file that was read, and of a run that ends early.
use Rattle.std.specs.Prelude.{◌≡◌, ◌≢◌, ◌⊎◌, ℕ, Bool, true, false, List, [], ◌∷◌, ◌++◌, Some, None, string_bytes}
use Rattle.kmin_disk.specs.Disks.{Disk, MayFailOnce, IsUnchanged, Replaces}
use Rattle.kmin_records.specs.declared.output_form.OutputForm.{OutputForm}
use Rattle.kmin_tidy.specs.Options.{TidySettings}
use Rattle.kmin_tidy.specs.Reports.{file_line}
use Rattle.kmin_tidy.specs.Steps.{IsUnwritten, IsUnsynced}
use Rattle.kmin_tidy.specs.Ends.{IsToBeReplaced, LeavesNewFile}
use Rattle.kmin_tidy.specs.Runs.{Tidies}
use Rattle.kmin_tidy.specs.declared.outcome.FileOutcome.TheVariants.{Minimal, NotMinimal, Failed}
use Rattle.kmin_tidy.specs.declared.report.Problem.TheVariants.{Write}
use Rattle.kmin_tidy.specs.declared.file_step.FileEnd.{FileEnd}
use Rattle.kmin_tidy.specs.declared.stop.TidyStop.{TidyStop}
use Rattle.kmin_tidy.specs.declared.stop.TidyStop.TheVariants.{Memory, Left}
use Rattle.kmin_report.specs.Reports.{ErrorLine}

-- an accepted file of these bytes is compared with its minimal file `minimal_bytes`, and replaced by it if they differ and `write` is
-- true: the disk after it, its line of standard output in a form, and its outcome and problem
pub data IsRewritten (form : OutputForm) (write : Bool) (old new : Disk) (path bytes minimal_bytes line : List ℕ) (end : FileEnd) : Type 0 where
  same : minimal_bytes ≡ bytes → new ≡ old → line ≡ [] → end.problem ≡ None → end.outcome ≡ Minimal
      → IsRewritten form write old new path bytes minimal_bytes line end
  shown : minimal_bytes ≢ bytes → write ≡ false → new ≡ old → line ≡ file_line form path bytes minimal_bytes → end.problem ≡ None
      → end.outcome ≡ NotMinimal → IsRewritten form write old new path bytes minimal_bytes line end
  replaced : minimal_bytes ≢ bytes → write ≡ true → Replaces old.state new.state path minimal_bytes → new.failures ≡ old.failures
      → line ≡ file_line form path bytes minimal_bytes → end.problem ≡ None → end.outcome ≡ Minimal
      → IsRewritten form write old new path bytes minimal_bytes line end
  unwritten : minimal_bytes ≢ bytes → write ≡ true → IsUnwritten old new path → line ≡ [] → end.problem ≡ Some Write
      → end.outcome ≡ Failed → IsRewritten form write old new path bytes minimal_bytes line end
  unsynced : minimal_bytes ≢ bytes → write ≡ true → IsUnsynced old new path minimal_bytes → line ≡ file_line form path bytes minimal_bytes
      → end.problem ≡ Some Write → end.outcome ≡ Failed → IsRewritten form write old new path bytes minimal_bytes line end

-- a file was replaced by its minimal file, or couldn't be: the disk after it, its outcome and problem, and whether it was
pub data IsWritten (old new : Disk) (path minimal_bytes : List ℕ) (end : FileEnd) : Type 0 where
  in_place : Replaces old.state new.state path minimal_bytes → new.failures ≡ old.failures → end.problem ≡ None
      → end.outcome ≡ Minimal → end.is_replaced ≡ true → IsWritten old new path minimal_bytes end
  not_in_place : IsUnwritten old new path → end.problem ≡ Some Write → end.outcome ≡ Failed → end.is_replaced ≡ false
      → IsWritten old new path minimal_bytes end
  not_synced : IsUnsynced old new path minimal_bytes → end.problem ≡ Some Write → end.outcome ≡ Failed → end.is_replaced ≡ true
      → IsWritten old new path minimal_bytes end

-- replacing the file at a path ended the run: memory ran out, and the disk is unchanged; or a new file is left
abbrev pub StopsWrite : (old new : Disk) → (path : List ℕ) → TidyStop → Type 0
StopsWrite old new path Memory = IsUnchanged old.state new.state
StopsWrite old new path (Left new_path) = LeavesNewFile old new path (string_bytes new_path)

-- the run ended at a file of these bytes with the minimal file `minimal_bytes`: memory ran out before it was replaced, or replacing it
-- ended the run
abbrev pub StopsRewrite : (write : Bool) → (old new : Disk) → (path bytes minimal_bytes : List ℕ) → TidyStop → Type 0
StopsRewrite write old new path bytes minimal_bytes stop = ((stop ≡ Memory) × (new ≡ old))
    ⊎ ((write ≡ true) × (minimal_bytes ≢ bytes) × StopsWrite old new path stop)

-- the run ended at the file at a path: memory ran out before it was replaced, or replacing it ended the run
abbrev pub StopsFile : TidySettings → (old new : Disk) → (path : List ℕ) → TidyStop → Type 0
StopsFile s old new path stop = ((stop ≡ Memory) × MayFailOnce old new) ⊎ (IsToBeReplaced s old path × StopsWrite old new path stop)

-- a run over these paths ended early for this reason, after these lines of standard error
pub data StopsRun (s : TidySettings) (old new : Disk) (paths : List (List ℕ)) (earlier : List ErrorLine) (stop : TidyStop) : Type 0 where
  before_write : (between : Disk) (front back : List (List ℕ)) (text : List ℕ) (made : ℕ) → paths ≡ front ++ back
      → Tidies s old between front text earlier made → MayFailOnce between new → stop ≡ Memory → StopsRun s old new paths earlier stop
  at_write : (between : Disk) (front back : List (List ℕ)) (path text : List ℕ) (made : ℕ) → paths ≡ front ++ path ∷ back
      → Tidies s old between front text earlier made → IsToBeReplaced s between path → StopsWrite between new path stop
      → StopsRun s old new paths earlier stop

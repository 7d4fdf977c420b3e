-- Runs over files.
use Rattle.std.specs.Prelude.{◌≡◌, ℕ, List, [], ◌∷◌, ◌++◌, map, max, Some}
use Rattle.std.specs.Borrow.{Bor}
use Rattle.std.specs.List.{AllByRecursion}
use Rattle.kmin_disk.specs.Disks.{Disk, DiskState, History}
use Rattle.kmin_tidy.specs.Options.{TidySettings}
use Rattle.kmin_tidy.specs.MinimalFiles.{IsMinimalFile, IsReadAs}
use Rattle.kmin_tidy.specs.Steps.{Step}
use Rattle.kmin_tidy.specs.declared.outcome.FileOutcome.{FileOutcome}
use Rattle.kmin_tidy.specs.declared.outcome.FileOutcome.TheVariants.{Minimal, NotMinimal, Refused, Failed}
use Rattle.kmin_report.specs.Reports.{ErrorLine}

-- a file that a run went over: its path and its outcome
abbrev pub DoneFile : Type 0
DoneFile = List ℕ × FileOutcome

-- the path of a file that a run went over
abbrev pub path_of : DoneFile → List ℕ
path_of done = done.0

-- A run goes over files one after another, each on the disk that those before it left. It has this disk at the end, these files
-- with their outcomes, this text for standard output and these lines of standard error.
pub data Run (s : TidySettings) (old : Disk) : Disk → List DoneFile → (text : List ℕ) → (reports : List ErrorLine) → Type 0 where
  none : Run s old old [] [] []
  one_more : (between new : Disk) (files all : List DoneFile) (path text line whole : List ℕ) (reports own every : List ErrorLine) (outcome : FileOutcome)
      → Run s old between files text reports → Step s between new path line own outcome
      → all ≡ files ++ (path, outcome) ∷ [] → whole ≡ text ++ line → every ≡ reports ++ own
      → Run s old new all whole every

-- the status of a run, from the outcome of its first file and the status of a run over its other files
abbrev pub status_with : FileOutcome → (rest : ℕ) → ℕ
status_with Minimal rest = rest
status_with NotMinimal rest = max 1 rest
status_with Refused rest = 4
status_with Failed rest = 5

-- the status of a run: that of the first file that is refused (4) or failed (5); if none is, 1 if a file isn't minimal, else 0
abbrev pub status_of : List DoneFile → ℕ
status_of [] = 0
status_of (done ∷ files) = status_with done.1 (status_of files)

-- a name in a folder holds a minimal file, as far as its content is known
abbrev pub HoldsMinimalFile : TidySettings → History → Type 0
HoldsMinimalFile s [] = Unit {0}
HoldsMinimalFile s (content ∷ before) = (bytes : List ℕ) × IsReadAs (Some content) bytes × IsMinimalFile s bytes

-- each file of a run with the outcome `Minimal` is a minimal file on this disk, as far as its content is known
abbrev pub AreMinimal : TidySettings → DiskState → List DoneFile → Type 0
AreMinimal s disk files = AllByRecursion (λ done. done.1 ≡ Minimal → HoldsMinimalFile s (disk.history (disk.place done.0))) files

-- the paths of a list of borrowed texts, in order
abbrev pub paths_of : List (Bor (List ℕ)) → List (List ℕ)
paths_of paths = map (λ (path : Bor (List ℕ)). path.now) paths

-- A run goes over all files of these paths, with this text for standard output, these lines of standard error and this status. At
-- its end each file with the outcome `Minimal` is a minimal file.
pub record Tidies (s : TidySettings) (old new : Disk) (paths : List (List ℕ)) (text : List ℕ) (reports : List ErrorLine) (status : ℕ) : Type 0 where
  pub files : List DoneFile
  pub paths_are : map path_of files ≡ paths
  pub run : Run s old new files text reports
  pub status_is : status ≡ status_of files
  pub minimal : AreMinimal s new.state files

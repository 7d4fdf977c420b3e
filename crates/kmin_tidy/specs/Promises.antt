-- Promises that hold however a run ends.
use Rattle.std.specs.Prelude.{◌≡◌, ◌≢◌, ◌↔◌, ◌⊎◌, ℕ, true, List, [], Option, Some}
use Rattle.std.specs.List.{AllByRecursion}
use Rattle.kc_minimal_model.specs.FileValues.{HaveSameValues}
use Rattle.kmin_disk.specs.Contents.{Content, nothing, file, unfinished}
use Rattle.kmin_disk.specs.Disks.{DiskState, History, Stays, newest, with_newest}
use Rattle.kmin_tidy.specs.Options.{TidySettings, Notices, refuses_notices}
use Rattle.kmin_tidy.specs.MinimalFiles.{IsReadAs, HasMinimalFile, IsMinimalFile}

-- A name in a folder held a file that was accepted but not minimal, and this file was replaced by its minimal file.
pub record IsMinimised (s : TidySettings) (old new : History) : Type 0 where
  pub bytes : List ℕ
  pub minimal_bytes : List ℕ
  pub notices : Notices
  pub read : IsReadAs (newest old) bytes
  pub minimal : HasMinimalFile s bytes minimal_bytes notices
  pub differs : minimal_bytes ≢ bytes
  pub replaced : new ≡ with_newest (file minimal_bytes) old

-- A name in a folder holds what it held before, or its file was replaced by its minimal file.
abbrev pub IsKept : TidySettings → (old new : History) → Type 0
IsKept s old new = Stays old new ⊎ IsMinimised s old new

-- a name in a folder that held nothing now holds a new file that isn't finished
abbrev pub IsLeft : (old new : History) → Type 0
IsLeft old new = (newest old ≡ Some nothing) × (newest new ≡ Some unfinished)

-- After a run, a name in a folder holds what it held before, its file was replaced by its minimal file, or it held nothing and
-- now holds an unfinished new file.
abbrev pub IsKeptOrLeft : TidySettings → (old new : History) → Type 0
IsKeptOrLeft s old new = IsKept s old new ⊎ IsLeft old new

-- a file of these bytes isn't accepted as a configuration file, or is refused for its notices
abbrev pub IsRefusedFile : TidySettings → (bytes : List ℕ) → Type 0
IsRefusedFile s bytes = (minimal_bytes : List ℕ) (notices : Notices) → HasMinimalFile s bytes minimal_bytes notices
    → (refuses_notices s.options ≡ true) × (notices ≢ [])

-- what is at a path is known: no file, a minimal file, or a file that is refused
abbrev pub IsTidy : TidySettings → Option Content → Type 0
IsTidy s (Some nothing) = Unit {0}
IsTidy s (Some (file bytes)) = IsMinimalFile s bytes ⊎ IsRefusedFile s bytes
IsTidy s _ = ⊥

-- each path is known to lead to no file, or to a file that is minimal or refused
abbrev pub AreTidy : TidySettings → DiskState → List (List ℕ) → Type 0
AreTidy s disk paths = AllByRecursion (λ path. IsTidy s (newest (disk.history (disk.place path)))) paths

-- Two accepted files give every symbol the same value exactly if their minimal files have the same bytes.
abbrev pub MinimalFilesAreEqual : Type 0
MinimalFilesAreEqual = (s : TidySettings) (a b least_a least_b : List ℕ) (m n : Notices) → (left : HasMinimalFile s a least_a m)
    → (right : HasMinimalFile s b least_b n) → HaveSameValues s.tree left.values right.values ↔ (least_a ≡ least_b)

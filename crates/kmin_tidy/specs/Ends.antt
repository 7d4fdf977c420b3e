-- How a run ends.
use Rattle.std.specs.Prelude.{◌≡◌, ◌<◌, ℕ, true, List, [], ◌∷◌, ◌++◌, Option, length, take}
use Rattle.std.specs.Io.KnownBytes.{Appends}
use Rattle.kc_value.specs.Streams.{one_failure_more}
use Rattle.kmin_disk.specs.Disks.{Disk, MayFailOnce, IsUnchanged, Leaves}
use Rattle.kmin_disk.specs.NewFiles.{IsNewPath}
use Rattle.kmin_tidy.specs.Options.{TidySettings, Notices}
use Rattle.kmin_tidy.specs.MinimalFiles.{IsNotMinimal}
use Rattle.kmin_report.specs.Reports.{ErrorLine, left_line, output_line, memory_line}
use Rattle.kc_files.specs.TreeContents.{HasRisen}
use Rattle.kmin_tidy.specs.Runs.{Tidies}

-- The option `--write` is given, and the file at this path is accepted, isn't refused for its notices, and differs from its
-- minimal file.
pub record IsToBeReplaced (s : TidySettings) (disk : Disk) (path : List ℕ) : Type 0 where
  pub asked : s.options.write ≡ true
  pub bytes : List ℕ
  pub minimal_bytes : List ℕ
  pub notices : Notices
  pub differs : IsNotMinimal s disk.state path bytes minimal_bytes notices

-- Replacing the file at `path` failed, and so did removing its new file, which is left at `new_path` in the same folder.
pub record LeavesNewFile (old new : Disk) (path new_path : List ℕ) : Type 0 where
  pub leaves : Leaves old.state new.state new_path
  pub named : IsNewPath path new_path
  pub failures : new.failures ≡ one_failure_more (one_failure_more old.failures)

-- A run went over the first of its paths and ended early: memory ran out before or during the replacement of a file (status 6),
-- or a new file couldn't be removed (status 5). Where memory ran out before, a read of the file may have failed.
pub data Stops (s : TidySettings) (old new : Disk) (paths : List (List ℕ)) (reports : List ErrorLine) (status : ℕ) : Type 0 where
  before_write : (between : Disk) (front back : List (List ℕ)) (text : List ℕ) (earlier : List ErrorLine) (made : ℕ)
      → paths ≡ front ++ back → Tidies s old between front text earlier made → MayFailOnce between new
      → reports ≡ earlier ++ memory_line ∷ [] → status ≡ 6 → Stops s old new paths reports status
  at_write : (between : Disk) (front back : List (List ℕ)) (path text : List ℕ) (earlier : List ErrorLine) (made : ℕ)
      → paths ≡ front ++ path ∷ back → Tidies s old between front text earlier made → IsToBeReplaced s between path
      → IsUnchanged between.state new.state
      → reports ≡ earlier ++ memory_line ∷ [] → status ≡ 6 → Stops s old new paths reports status
  at_left : (between : Disk) (front back : List (List ℕ)) (path new_path text : List ℕ) (earlier : List ErrorLine) (made : ℕ)
      → paths ≡ front ++ path ∷ back → Tidies s old between front text earlier made → IsToBeReplaced s between path
      → LeavesNewFile between new path new_path
      → reports ≡ earlier ++ left_line new_path ∷ [] → status ≡ 5 → Stops s old new paths reports status

-- A run over files ends: its text is written to standard output whole, or in part since a write failed; or the run ended early,
-- and nothing is written to standard output.
pub data Ends (s : TidySettings) (old new : Disk) (paths : List (List ℕ)) (taken taken_after : Option (List ℕ)) (failed failed_after : ℕ)
    (reports : List ErrorLine) (status : ℕ) : Type 0 where
  whole : (text : List ℕ) → Tidies s old new paths text reports status → Appends taken taken_after text
      → failed_after ≡ failed → Ends s old new paths taken taken_after failed failed_after reports status
  part : (text : List ℕ) (earlier : List ErrorLine) (made count : ℕ) → Tidies s old new paths text earlier made
      → count < length text → Appends taken taken_after (take count text) → HasRisen failed failed_after
      → reports ≡ earlier ++ output_line ∷ [] → status ≡ 5
      → Ends s old new paths taken taken_after failed failed_after reports status
  stopped : Stops s old new paths reports status → taken_after ≡ taken → failed_after ≡ failed
      → Ends s old new paths taken taken_after failed failed_after reports status

-- The disk after the replacing of a file.
use Rattle.std.specs.Prelude.{ℕ, List, string_bytes}
use Rattle.kmin_disk.specs.Disks.{DiskState, IsUnchanged, Replaces, Leaves}
use Rattle.kmin_disk.specs.NewFiles.{Draft, IsNewPath, IsTaken, Takes, Renames}
use Rattle.kmin_disk.specs.declared.fault.ReplaceFault.{ReplaceFault}
use Rattle.kmin_disk.specs.declared.fault.ReplaceFault.TheVariants.{NotRegular, Unchanged, NamesTaken, Left, FolderNotSynced, OutOfMemory}

-- What a fault of replacing a file leaves: a disk that is unchanged, or that has one new file more in the folder of the path, or
-- the new bytes in a folder that isn't synced.
abbrev pub FaultLeaves : DiskState → DiskState → List ℕ → List ℕ → ReplaceFault → Type 0
FaultLeaves old new path bytes (Left new_path) = Leaves old new (string_bytes new_path) × IsNewPath path (string_bytes new_path)
FaultLeaves old new path bytes FolderNotSynced = Replaces old new path bytes
FaultLeaves old new path bytes NotRegular = IsUnchanged old new
FaultLeaves old new path bytes Unchanged = IsUnchanged old new
FaultLeaves old new path bytes NamesTaken = IsUnchanged old new
FaultLeaves old new path bytes OutOfMemory = IsUnchanged old new

-- Some name for a new file in the folder of a path is in use.
pub record HasTakenName (disk : DiskState) (path : List ℕ) : Type 0 where
  pub new_path : List ℕ
  pub is_new_path : IsNewPath path new_path
  pub taken : IsTaken disk path new_path

-- This fault of replacing a file can come before a new file is created.
abbrev pub IsBeforeNewFile : ReplaceFault → Type 0
IsBeforeNewFile Unchanged = Unit {0}
IsBeforeNewFile NamesTaken = Unit {0}
IsBeforeNewFile OutOfMemory = Unit {0}
IsBeforeNewFile NotRegular = ⊥
IsBeforeNewFile (Left new_path) = ⊥
IsBeforeNewFile FolderNotSynced = ⊥

-- A new file took these bytes, and was then renamed to its target.
pub record FillsAndRenames (old new : DiskState) (draft : Draft) (bytes : List ℕ) : Type 0 where
  pub filled : Draft
  pub takes : Takes draft filled bytes
  pub renames : Renames old new filled

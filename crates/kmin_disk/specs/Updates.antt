-- The disk after a file was updated to given bytes.
use Rattle.std.specs.Prelude.{◌≡◌, ◌≢◌, ◌⊎◌, ℕ, List, Some}
use Rattle.kmin_disk.specs.Contents.{MayRead, file}
use Rattle.kmin_disk.specs.Disks.{DiskState, Replaces, content_at}
use Rattle.kmin_disk.specs.Replacements.{FaultLeaves}
use Rattle.kmin_disk.specs.declared.fault.UpdateFault.{UpdateFault}
use Rattle.kmin_disk.specs.declared.fault.UpdateFault.TheVariants.{Unread, Replace}

-- the file at a path was updated to these bytes: it may have had them, and nothing changed, or it isn't known to have had them,
-- and was replaced
abbrev pub Updates : DiskState → DiskState → List ℕ → List ℕ → Type 0
Updates old new path bytes =
    ((new ≡ old) × MayRead (content_at old path) bytes)
    ⊎ ((content_at old path ≢ Some (file bytes)) × Replaces old new path bytes)

-- what a fault of updating a file leaves: the disk as it was, or as it is after a fault of replacing the file
abbrev pub UpdateLeaves : DiskState → DiskState → List ℕ → List ℕ → UpdateFault → Type 0
UpdateLeaves old new path bytes Unread = new ≡ old
UpdateLeaves old new path bytes (Replace fault) = FaultLeaves old new path bytes fault

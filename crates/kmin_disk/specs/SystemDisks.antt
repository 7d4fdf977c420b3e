-- The disk of the system, of whose files nothing is known but what the calls on a new file show.
use Rattle.std.specs.Prelude.{◌≡◌, ◌==◌, ◌&&◌, ℕ, Bool, true, false, List, [], Option, None, Some, codes, length, if◌then◌else◌, string_bytes, unwrap_or}
use Rattle.std.specs.Path.{path_parent}
use Rattle.kmin_disk.specs.Disks.{DiskState}
use Rattle.kmin_disk.specs.NewFiles.{Draft}
use Rattle.kmin_disk.specs.declared.written_file.Owner.{Owner}
use Rattle.kmin_disk.specs.declared.written_file.Rights.{Rights}
use Rattle.kmin_disk.specs.declared.written_file.WrittenFile.{WrittenFile}
use Rattle.kmin_disk.specs.declared.system_new_file.SystemNewFile.{SystemNewFile}

-- the state of a disk of which nothing is known
abbrev pub unknown_state : DiskState
unknown_state = record { place = λ path. path; history = λ place. [] }

-- A file is known to have this owner, group and mode.
pub record HasRights (file : WrittenFile) (rights : Rights) : Type 0 where
  pub owner : file.owner ≡ Some rights.owner
  pub mode : file.mode ≡ Some rights.mode

-- whether a file is known to have this owner and this group
abbrev pub has_owner : Option Owner → Owner → Bool
has_owner None wanted = false
has_owner (Some owner) wanted = (owner.user == wanted.user) && (owner.group == wanted.group)

-- whether a file is known to have this mode
abbrev pub has_mode : Option ℕ → ℕ → Bool
has_mode None wanted = false
has_mode (Some mode) wanted = mode == wanted

-- whether a file is known to have these rights, where there are any that it is to have
abbrev pub has_rights : WrittenFile → Option Rights → Bool
has_rights file None = true
has_rights file (Some rights) = has_owner file.owner rights.owner && has_mode file.mode rights.mode

-- whether a new file has the owner, the group and the mode of the file that it is to replace, if there is one, and a sync followed
-- all that was written to it and set of it
abbrev pub is_finished : SystemNewFile → Bool
is_finished new = new.file.synced && has_rights new.file new.rights

-- A new file has this path, and is to replace the file at this target.
pub record HasPaths (new : SystemNewFile) (path target : List ℕ) : Type 0 where
  pub path_is : string_bytes new.path ≡ path
  pub target_is : string_bytes new.target ≡ target

-- what is known of a new file: its own path and that of its target, and whether it is finished
abbrev pub system_draft : SystemNewFile → Draft
system_draft new = record { own = string_bytes new.path; target = string_bytes new.target; bytes = None; synced = is_finished new }

-- `.` in place of an empty path
abbrev pub folder_or_present : List ℕ → List ℕ
folder_or_present folder = if length folder == 0 then codes "." else folder

-- the folder in which the last name of a path is: the path's parent, or for a bare name the present folder
abbrev pub folder_of : List ℕ → List ℕ
folder_of path = folder_or_present (unwrap_or (path_parent path) [])

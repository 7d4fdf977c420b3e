-- New files: their names, their bytes, and the disk after they are made, renamed and removed.
use Rattle.std.specs.Prelude.{◌≡◌, ◌≢◌, ◌+◌, ℕ, zero, suc, ◌/◌, ◌%◌, Bool, true, false, List, [], ◌∷◌, ◌++◌, Option, Some, None, codes, if◌then◌else◌, ◌⊎◌, nat_lt}
use Rattle.std.specs.Path.{path_with_file_name}
use Rattle.kmin_disk.specs.Contents.{nothing, file, unfinished}
use Rattle.kmin_disk.specs.Disks.{History, DiskState, newest, with_newest, content_at}

-- a new file that is to replace another: its name in a folder, the name that it is to get (`target`), its bytes, if they are
-- known, and whether a sync followed all writes to it
pub record Draft : Type 0 where
  pub own : List ℕ
  pub target : List ℕ
  pub bytes : Option (List ℕ)
  pub synced : Bool

-- the bytes of a new file with more bytes appended; `None` if the first ones aren't known
abbrev pub and_then : Option (List ℕ) → List ℕ → Option (List ℕ)
and_then None more = None
and_then (Some bytes) more = Some (bytes ++ more)

-- A new file has the same name and the same `target` as before; its bytes and whether it is synced may differ.
pub record IsSameDraft (old new : Draft) : Type 0 where
  pub own : new.own ≡ old.own
  pub target : new.target ≡ old.target

-- A new file took these bytes after those that it had.
pub record Takes (old new : Draft) (more : List ℕ) : Type 0 where
  pub own : new.own ≡ old.own
  pub target : new.target ≡ old.target
  pub bytes : new.bytes ≡ and_then old.bytes more

-- A new file is synced, with the bytes that it had.
pub record IsSynced (old new : Draft) : Type 0 where
  pub own : new.own ≡ old.own
  pub target : new.target ≡ old.target
  pub bytes : new.bytes ≡ old.bytes
  pub synced : new.synced ≡ true

-- the history of a name in a folder after a new file of these bytes was renamed to it; empty if the bytes aren't known
abbrev pub after_rename : Option (List ℕ) → History → History
after_rename None before = []
after_rename (Some bytes) before = with_newest (file bytes) before

-- An empty new file was created at `new_path`, where nothing was, to replace the file at `path`, which leads to another name.
pub record Creates (old new : DiskState) (path new_path : List ℕ) (draft : Draft) : Type 0 where
  pub places : (any : List ℕ) → new.place any ≡ old.place any
  pub own : draft.own ≡ old.place new_path
  pub target : draft.target ≡ old.place path
  pub apart : draft.own ≢ draft.target
  pub free : newest (old.history draft.own) ≢ None → newest (old.history draft.own) ≡ Some nothing
  pub made : new.history draft.own ≡ with_newest unfinished (old.history draft.own)
  pub others : (place : List ℕ) → place ≢ draft.own → new.history place ≡ old.history place
  pub empty : newest (old.history draft.target) ≢ None → draft.bytes ≡ Some []
  pub unsynced : draft.synced ≡ false

-- No new file can be created at the second path to replace the file at the first: the second path isn't known to hold nothing, or
-- both paths lead to the same name in a folder.
abbrev pub IsTaken : DiskState → List ℕ → List ℕ → Type 0
IsTaken disk path new_path = (content_at disk new_path ≢ Some nothing) ⊎ (disk.place new_path ≡ disk.place path)

-- A new file was renamed from its own name to its `target`; all other names in folders have the same history as before.
pub record Renames (old new : DiskState) (draft : Draft) : Type 0 where
  pub places : (any : List ℕ) → new.place any ≡ old.place any
  pub target : new.history draft.target ≡ after_rename draft.bytes (old.history draft.target)
  pub gone : new.history draft.own ≡ with_newest nothing (old.history draft.own)
  pub others : (place : List ℕ) → place ≢ draft.own → place ≢ draft.target → new.history place ≡ old.history place

-- A new file was removed from its own name; all other names in folders have the same history as before.
pub record Removes (old new : DiskState) (draft : Draft) : Type 0 where
  pub places : (any : List ℕ) → new.place any ≡ old.place any
  pub gone : new.history draft.own ≡ with_newest nothing (old.history draft.own)
  pub others : (place : List ℕ) → place ≢ draft.own → new.history place ≡ old.history place

-- the ASCII code of a digit in base 16: `0` to `9`, `a` to `f`
abbrev pub hex_digit : ℕ → ℕ
hex_digit digit = if nat_lt digit 10 then 48 + digit else 87 + digit

-- the last `count` digits of a number in base 16, as ASCII codes, given the count and the number
unfoldable pub hex_digits : ℕ → ℕ → List ℕ
hex_digits zero number = []
hex_digits (suc count) number = hex_digits count (number / 16) ++ hex_digit (number % 16) ∷ []

-- the file name of a new file, by a number: `.kmin-` and the last 16 digits of the number in base 16
abbrev pub new_name : ℕ → List ℕ
new_name number = codes ".kmin-" ++ hex_digits 16 number

-- `new_path` is a path for a new file: a name as given by `new_name`, in the folder of `path`.
pub record IsNewPath (path new_path : List ℕ) : Type 0 where
  pub number : ℕ
  pub spelled : new_path ≡ path_with_file_name path (new_name number)

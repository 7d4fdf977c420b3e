-- A disk in memory, whose history is known.
use Rattle.std.specs.Prelude.{◌≡◌, ℕ, List, [], ◌∷◌, ◌++◌, Some, if◌then◌else◌, string_bytes}
use Rattle.std.specs.Str.{bytes_eq}
use Rattle.kmin_disk.specs.Contents.{Content, nothing, file, unfinished, special}
use Rattle.kmin_disk.specs.Disks.{History, DiskState, with_newest}
use Rattle.kmin_disk.specs.NewFiles.{Draft}
use Rattle.kmin_fakes.specs.declared.memory_disk.MemoryContent.{MemoryContent}
use Rattle.kmin_fakes.specs.declared.memory_disk.MemoryContent.TheVariants.{Nothing, File, Unfinished, Special}
use Rattle.kmin_fakes.specs.declared.memory_disk.MemoryNewFile.{MemoryNewFile}
use Rattle.kmin_fakes.specs.declared.memory_disk.Event.{Event}
use Rattle.kmin_fakes.specs.declared.memory_disk.Event.TheVariants.{Holds, Renamed}

-- the `Content` that contracts see for what a path of a disk in memory holds
abbrev pub content_view : MemoryContent → Content
content_view Nothing = nothing
content_view (File bytes) = file bytes.now
content_view Unfinished = unfinished
content_view Special = special

-- the history of a path of a disk in memory after an event, given its history before
abbrev pub history_after : Event → List ℕ → History → History
history_after (Holds at content) path history = if bytes_eq (string_bytes at) path
    then with_newest (content_view content) history
    else history
history_after (Renamed from to bytes) path history = if bytes_eq (string_bytes to) path
    then with_newest (file bytes.now) history
    else (if bytes_eq (string_bytes from) path then with_newest nothing history else history)

-- the history of a path of a disk in memory after all events of a log, given its history before
abbrev pub history_from : History → List Event → List ℕ → History
history_from history [] path = history
history_from history (event ∷ events) path = history_from (history_after event path history) events path

-- the state of a disk in memory after all events of its log: each path leads to a name of its own, which held nothing at first
abbrev pub memory_state : List Event → DiskState
memory_state events = record { place = λ path. path; history = history_from (nothing ∷ []) events }

-- the draft that contracts see for a new file of a disk in memory: its paths, its bytes and whether it is synced are known
abbrev pub memory_draft : MemoryNewFile → Draft
memory_draft new = record { own = string_bytes new.path; target = string_bytes new.target; bytes = Some new.bytes.items; synced = new.synced }

-- The log of a disk in memory got one more event, by which a path got this content.
pub record AppendsHolds (old new : List Event) (path : List ℕ) (content : MemoryContent) : Type 0 where
  pub event : Event
  pub change : (any : List ℕ) (history : History) → history_after event any history ≡ (if bytes_eq path any then with_newest (content_view content) history else history)
  pub appended : new ≡ old ++ event ∷ []

-- The log of a disk in memory got one more event, by which a new file was renamed over its target.
pub record AppendsRename (old new : List Event) (made : MemoryNewFile) : Type 0 where
  pub event : Event
  pub change : (any : List ℕ) (history : History) → history_after event any history ≡ (if bytes_eq (string_bytes made.target) any
      then with_newest (file made.bytes.items) history
      else (if bytes_eq (string_bytes made.path) any then with_newest nothing history else history))
  pub appended : new ≡ old ++ event ∷ []

-- The history of each name of a disk.
use Rattle.std.specs.Prelude.{◌≡◌, ◌≢◌, ◌⊎◌, ℕ, List, [], ◌∷◌, Option, Some, None}
use Rattle.kc_value.specs.Streams.{one_failure_more}
use Rattle.kmin_disk.specs.Contents.{Content, nothing, file, unfinished}

-- all contents that a name in a folder has held, the newest first; empty if nothing is known of the name
abbrev pub History : Type 0
History = List Content

-- the present content of a name with this history; `None` if it isn't known
abbrev pub newest : History → Option Content
newest [] = None
newest (content ∷ before) = Some content

-- a history with one more content, as its newest; a history of which nothing is known stays empty
abbrev pub with_newest : Content → History → History
with_newest content [] = []
with_newest content (last ∷ before) = content ∷ last ∷ before

-- The state of a disk: the place to which each path leads, and the history of each place. A place is a name in a folder, to which
-- several paths may lead.
pub record DiskState : Type 0 where
  pub place : List ℕ → List ℕ
  pub history : List ℕ → History

-- what is known of a disk: its state, and how many of its calls failed, up to 2^64 - 1: those that change it, those of `open`, and
-- the reads of files that were closed
pub record Disk : Type 0 where
  pub state : DiskState
  pub failures : ℕ

-- the present content at a path, if it is known
abbrev pub content_at : DiskState → List ℕ → Option Content
content_at disk path = newest (disk.history (disk.place path))

-- A name in a folder holds what it held: its newest content is the same, and unless that is `nothing`, its history is too.
pub record Stays (old new : History) : Type 0 where
  pub same_content : newest new ≡ newest old
  pub same_history : newest old ≢ Some nothing → new ≡ old

-- Every path of a disk leads to the same name in a folder as before, and every name in a folder holds what it held.
pub record IsUnchanged (old new : DiskState) : Type 0 where
  pub places : (path : List ℕ) → new.place path ≡ old.place path
  pub histories : (place : List ℕ) → Stays (old.history place) (new.history place)

-- A call failed that changes no file: the disk is the same, but for its count of failed calls, which is one more.
pub record FailsOnce (old new : Disk) : Type 0 where
  pub same : new.state ≡ old.state
  pub failures : new.failures ≡ one_failure_more old.failures

-- a disk is the same, but that one call more may have failed that changes no file
abbrev pub MayFailOnce : (old new : Disk) → Type 0
MayFailOnce old new = (new ≡ old) ⊎ FailsOnce old new

-- The name in a folder to which a path leads got a file of these bytes as its newest content; every other name holds what it
-- held.
pub record Replaces (old new : DiskState) (path bytes : List ℕ) : Type 0 where
  pub places : (any : List ℕ) → new.place any ≡ old.place any
  pub target : new.history (old.place path) ≡ with_newest (file bytes) (old.history (old.place path))
  pub others : (place : List ℕ) → place ≢ old.place path → Stays (old.history place) (new.history place)

-- The name in a folder to which a path leads, where nothing was, got a new file that isn't finished; every other name has the
-- same history as before.
pub record Leaves (old new : DiskState) (path : List ℕ) : Type 0 where
  pub places : (any : List ℕ) → new.place any ≡ old.place any
  pub free : newest (old.history (old.place path)) ≢ None → content_at old path ≡ Some nothing
  pub left : new.history (old.place path) ≡ with_newest unfinished (old.history (old.place path))
  pub others : (place : List ℕ) → place ≢ old.place path → new.history place ≡ old.history place

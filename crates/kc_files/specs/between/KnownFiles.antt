-- The files and folders of a tree that were read so far.
use Rattle.std.specs.Prelude.{◌≡◌, ℕ, ◌<◌, ◌≤◌, Bool, true, false, List, length, Option, Some, None}
use Rattle.kc_value.specs.FileContents.{FileContent, unknown, absent, known}
use Rattle.kc_tree_model.specs.Keywords.{keyword_in_table}
use Rattle.kc_value.specs.declared.limits.TheConstants.{MAX_TREE_BYTES, MAX_LISTED_NAMES}
use Rattle.kc_macros_model.specs.Worlds.{World}
use Rattle.kc_files.specs.TreeContents.{FolderContent, TreeContents, HasRisen}

-- the result of reading a file: it is missing, is there and can't be read, has these bytes, or has more bytes than may be read
pub data FileRead : Type 0 where
  missing : FileRead
  unreadable : FileRead
  whole : List ℕ → FileRead
  too_long : FileRead

-- the result of listing a folder: it has these names, or more than may be listed, or it is there and can't be listed
pub data FolderRead : Type 0 where
  names : List (List ℕ) → FolderRead
  too_many : FolderRead
  unlisted : FolderRead

-- the files that were read, by their paths, and the folders that were listed
pub record KnownFiles : Type 0 where
  pub files : List (List ℕ × FileRead)
  pub folders : List (List ℕ × FolderRead)

-- the bytes of the file of a path, none where it can't be read, agree with the result of reading it
abbrev pub AreBytes : FileRead → Option (List ℕ) → Type 0
AreBytes missing bytes = bytes ≡ None
AreBytes unreadable bytes = bytes ≡ None
AreBytes (whole read) bytes = bytes ≡ Some read
AreBytes too_long bytes = (more : List ℕ) × (bytes ≡ Some more) × (MAX_TREE_BYTES < length more)

-- whether a file is there that can't be read agrees with the result of reading it; for one that was read it may be either
abbrev pub IsUnreadable : FileRead → Bool → Type 0
IsUnreadable missing there = there ≡ false
IsUnreadable unreadable there = there ≡ true
IsUnreadable (whole read) there = Unit {0}
IsUnreadable too_long there = Unit {0}

-- the names in a folder, none where it can't be listed, agree with the result of listing it
abbrev pub AreNames : FolderRead → Option (List (List ℕ)) → Type 0
AreNames (names read) all = all ≡ Some read
AreNames too_many all = (more : List (List ℕ)) × (all ≡ Some more) × (MAX_LISTED_NAMES < length more)
AreNames unlisted all = all ≡ None

-- a world has all files and folders that were read, as they were read
pub record Agrees (w : World) (store : KnownFiles) : Type 0 where
  pub files : (path : List ℕ) (read : FileRead) → keyword_in_table store.files path ≡ Some read → AreBytes read (w.bytes path)
  pub there : (path : List ℕ) (read : FileRead) → keyword_in_table store.files path ≡ Some read → IsUnreadable read (w.unreadable path)
  pub folders : (folder : List ℕ) (read : FolderRead) → keyword_in_table store.folders folder ≡ Some read → AreNames read (w.names folder)

-- the result of reading a file agrees with its known content, where the count of failures went from one number to another; a known
-- file may also be unreadable if the count rose, but not missing
abbrev pub MatchFile : FileContent → (failed failed_after : ℕ) → FileRead → Type 0
MatchFile unknown failed failed_after read = Unit {0}
MatchFile absent failed failed_after read = read ≡ missing
MatchFile (known all) failed failed_after missing = ⊥
MatchFile (known all) failed failed_after unreadable = HasRisen failed failed_after
MatchFile (known all) failed failed_after (whole bytes) = bytes ≡ all
MatchFile (known all) failed failed_after too_long = MAX_TREE_BYTES < length all

-- the result of listing a folder agrees with its known content, where the count of failures went from one number to another; a
-- known folder may also fail to be listed if the count rose
abbrev pub MatchFolder : FolderContent → (failed failed_after : ℕ) → FolderRead → Type 0
MatchFolder None failed failed_after read = Unit {0}
MatchFolder (Some all) failed failed_after (names read) = read ≡ all
MatchFolder (Some all) failed failed_after too_many = MAX_LISTED_NAMES < length all
MatchFolder (Some all) failed failed_after unlisted = HasRisen failed failed_after

-- all files and folders that were read, while the count of failures rose from `failed`, agree with the known contents of the tree
pub record AreAsKnown (contents : TreeContents) (failed : ℕ) (store : KnownFiles) : Type 0 where
  pub files : (path : List ℕ) (read : FileRead) → keyword_in_table store.files path ≡ Some read → MatchFile (contents.file path) failed contents.failures read
  pub folders : (folder : List ℕ) (read : FolderRead) → keyword_in_table store.folders folder ≡ Some read
      → MatchFolder (contents.folder folder) failed contents.failures read

-- files and folders that were read grow from `old` to `new`: none is forgotten, and all agree with the known contents if those of
-- `old` do
pub record Grows (before after : TreeContents) (old new : KnownFiles) : Type 0 where
  pub rising : before.failures ≤ after.failures
  pub worlds : (w : World) → Agrees w new → Agrees w old
  pub matched : (failed : ℕ) → failed ≤ before.failures → AreAsKnown before failed old → AreAsKnown after failed new

-- whether a file is there, by the result of reading it
abbrev pub is_there : FileRead → Bool
is_there missing = false
is_there unreadable = true
is_there (whole bytes) = true
is_there too_long = true

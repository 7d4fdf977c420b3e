-- The known contents of the files and folders of a tree, before they are read.
use Rattle.std.specs.Prelude.{◌≡◌, ℕ, ◌-◌, ◌^◌, ◌<◌, ◌≤◌, ◌⊎◌, Bool, true, false, List, length, Option, Some, None}
use Rattle.kc_value.specs.FileContents.{FileContent, unknown, absent, known}
use Rattle.kc_macros_model.specs.Worlds.{World}

-- what is known of a folder before it is listed: nothing, or the names in it
abbrev pub FolderContent : Type 0
FolderContent = Option (List (List ℕ))

-- the listing of a folder agrees with its known names: it gives just these, or `None` where there are more than `most`
abbrev pub ListsAs : FolderContent → (most : ℕ) → Option (List (List ℕ)) → Type 0
ListsAs None most names = Unit {0}
ListsAs (Some all) most (Some names) = names ≡ all
ListsAs (Some all) most None = most < length all

-- the bytes of the file of a path, none where there is no such file or it can't be read, and whether it is there and can't be read,
-- agree with its known content: a known file has its bytes, or it can't be read
abbrev pub IsContentRead : FileContent → (bytes : Option (List ℕ)) → (unreadable : Bool) → Type 0
IsContentRead unknown bytes unreadable = Unit {0}
IsContentRead absent bytes unreadable = (bytes ≡ None) × (unreadable ≡ false)
IsContentRead (known all) bytes unreadable = (bytes ≡ Some all) ⊎ ((bytes ≡ None) × (unreadable ≡ true))

-- the names in a folder, `None` where it can't be listed, agree with its known content
abbrev pub IsFolderRead : FolderContent → Option (List (List ℕ)) → Type 0
IsFolderRead None names = Unit {0}
IsFolderRead (Some all) names = (names ≡ Some all) ⊎ (names ≡ None)

-- a count of failures rose, unless it was at its limit, 2 ^ 64 - 1
abbrev pub HasRisen : (before after : ℕ) → Type 0
HasRisen before after = before < 2 ^ 64 - 1 → before < after

-- the bytes of the file of a path, and whether it is there and can't be read, are those of its known content
abbrev pub IsContent : FileContent → (bytes : Option (List ℕ)) → (unreadable : Bool) → Type 0
IsContent unknown bytes unreadable = Unit {0}
IsContent absent bytes unreadable = (bytes ≡ None) × (unreadable ≡ false)
IsContent (known all) bytes unreadable = (bytes ≡ Some all) × (unreadable ≡ false)

-- the names in a folder are those of its known content
abbrev pub IsFolder : FolderContent → Option (List (List ℕ)) → Type 0
IsFolder None names = Unit {0}
IsFolder (Some all) names = names ≡ Some all

-- what is known of a tree: the contents of its files and folders; of the paths beside the tree, which an expansion doesn't read, their
-- contents; the count of calls on files that failed; and the number of the reference through which files are read, if there is one
pub record TreeContents : Type 0 where
  pub file : List ℕ → FileContent
  pub folder : List ℕ → FolderContent
  pub beside : List ℕ → FileContent
  pub failures : ℕ
  pub reference : ℕ

-- the files and folders of a world agree with the known contents of a tree
pub record IsWorldOf (contents : TreeContents) (w : World) : Type 0 where
  pub files : (path : List ℕ) → IsContentRead (contents.file path) (w.bytes path) (w.unreadable path)
  pub folders : (folder : List ℕ) → IsFolderRead (contents.folder folder) (w.names folder)

-- each file and each folder of a world is as it is known, where it is known: none of them can't be read
pub record IsWholeWorldOf (contents : TreeContents) (w : World) : Type 0 where
  pub files : (path : List ℕ) → IsContent (contents.file path) (w.bytes path) (w.unreadable path)
  pub folders : (folder : List ℕ) → IsFolder (contents.folder folder) (w.names folder)

-- what is known of a tree before and after some of it was read: the same, but for the count of failures, which didn't fall
pub record StaysKnown (before after : TreeContents) : Type 0 where
  pub same : after ≡ record before { failures = after.failures }
  pub rising : before.failures ≤ after.failures

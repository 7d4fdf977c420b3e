-- The files and folders that the code has read, as `KnownFiles`.
use Rattle.std.specs.Prelude.{ℕ, List, map}
use Rattle.kc_files.specs.declared.file_bytes.FileRead.{FileRead as CodeFile}
use Rattle.kc_files.specs.declared.file_bytes.FileRead.TheVariants.{Missing, Unreadable, Whole, TooLong}
use Rattle.kc_files.specs.declared.folder_names.FolderRead.{FolderRead as CodeFolder}
use Rattle.kc_files.specs.declared.folder_names.FolderRead.TheVariants.{Names, TooMany, Unlisted}
use Rattle.kc_files.specs.TextViews.{texts_of}
use Rattle.kc_files.specs.declared.file_cache.FileCache.{FileCache}
use Rattle.kc_files.specs.between.KnownFiles.{FileRead, missing, unreadable, whole, too_long, FolderRead, names, too_many, unlisted, KnownFiles}

-- the code's result of reading a file, a `CodeFile`, as a `FileRead`
abbrev pub file_of : CodeFile → FileRead
file_of Missing = missing
file_of Unreadable = unreadable
file_of (Whole bytes) = whole bytes.value.items
file_of TooLong = too_long

-- the code's result of listing a folder, a `CodeFolder`, as a `FolderRead`
abbrev pub folder_of : CodeFolder → FolderRead
folder_of (Names ns) = names (texts_of ns)
folder_of TooMany = too_many
folder_of Unlisted = unlisted

-- a table of paths with each value seen in another way
abbrev pub seen_as : {R A : Type 0} → (R → A) → List (List ℕ × R) → List (List ℕ × A)
seen_as view table = map (λ e. (e.0, view e.1)) table

-- all files that a store has read and all folders that it has listed
abbrev pub known_of : FileCache → KnownFiles
known_of s = record { files = seen_as file_of s.files; folders = seen_as folder_of s.folders }

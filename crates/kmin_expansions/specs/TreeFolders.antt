-- The files and folders of a tree below its root, as far as they are known.
use Rattle.std.specs.Prelude.{ℕ, List, [], Some, if◌then◌else◌}
use Rattle.std.specs.Str.{is_utf8}
use Rattle.kc_value.specs.FileContents.{FileContent, absent}
use Rattle.kc_files.specs.TreeContents.{FolderContent, TreeContents}
use Rattle.kmin_inputs.specs.FileContents.{Surroundings, path_below}

-- what is known of a file of a tree: the regular file at its path below the root; there is no file if its path isn't UTF-8
abbrev pub regular_below : (List ℕ → FileContent) → (root path : List ℕ) → FileContent
regular_below regular root path = if is_utf8 path then regular (path_below root path) else absent

-- what is known of the names in a folder of a tree: those of the folder below the root; none if its path isn't UTF-8
abbrev pub names_below : (List ℕ → FolderContent) → (root folder : List ℕ) → FolderContent
names_below names root folder = if is_utf8 folder then names (path_below root folder) else Some []

-- the `TreeContents` of a tree below a root: what is known of its files and folders, with these numbers in the fields `reference`
-- and `failures`
abbrev pub contents_through : (reference failures : ℕ) → Surroundings → (root : List ℕ) → TreeContents
contents_through reference failures known root =
    record { file = regular_below known.regular root; folder = names_below known.names root; beside = known.content; failures = failures; reference = reference }

-- what is known of the files and folders of a tree below a root, for an expansion of its macros
abbrev pub contents_below : Surroundings → (root : List ℕ) → TreeContents
contents_below known root = contents_through 0 0 known root

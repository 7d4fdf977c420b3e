-- The absent paths of a reading.
use Rattle.std.specs.Prelude.{ℕ, Bool, not, ◌∷◌, ◌++◌, [], List, Option, None, Some, is_some, map, slice_get, string_bytes, if◌then◌else◌}
use Rattle.kc_tree_model.specs.TreeFiles.{Files, file_at}
use Rattle.kc_tree_model.specs.Limits.{is_in_list}
use Rattle.kc_parser.specs.declared.listing.Group.{Group}
use Rattle.kc_parser.specs.declared.listing.GroupHead.{GroupHead}
use Rattle.kc_parser.specs.declared.listing.GroupHead.TheVariants.{Source}
use Rattle.kc_checks.specs.declared.paths.Paths.{Paths}

-- the paths of a list of paths without repeats, as bytes, in order of first insertion
abbrev pub paths_in : Paths → List (List ℕ)
paths_in p = map string_bytes p.paths.keys

-- the list of paths with a path appended, unless the list has it
abbrev pub with_path : List ℕ → List (List ℕ) → List (List ℕ)
with_path path paths = if is_in_list path paths then paths else paths ++ path ∷ []

-- whether no file has this path
abbrev pub is_absent : Files → List ℕ → Bool
is_absent files path = not (is_some (file_at files path))

-- the list of paths with an optional path appended, if there is no file of this path and the list doesn't have it
abbrev pub with_absent : Files → List (List ℕ) → Option (List ℕ) → List (List ℕ)
with_absent files paths None = paths
with_absent files paths (Some path) = if is_absent files path then with_path path paths else paths

-- the path of a `source` statement, from the texts of a listing; `None` for any other statement
abbrev pub path_in : List (List ℕ) → GroupHead → Option (List ℕ)
path_in texts (Source t) = slice_get texts t
path_in texts w = None

-- the list of paths with the absent paths that groups source appended, each once, in reading order
abbrev pub with_all : Files → List (List ℕ) → List (List ℕ) → List Group → List (List ℕ)
with_all files texts paths [] = paths
with_all files texts paths (g ∷ gs) = with_all files texts (with_absent files paths (path_in texts g.head)) gs

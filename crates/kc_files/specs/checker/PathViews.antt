-- Paths of `source` lines.
use Rattle.std.specs.Prelude.{ℕ, Bool, not, ◌&&◌, List, ◌++◌, if◌then◌else◌}
use Rattle.kc_macros_model.specs.TreeExpansion.{begins_with_slash, folder_of}

-- the path that a `source` line in a file means: with `relative`, the given path is in the folder of the file, unless it begins
-- with a slash
abbrev pub path_from : (relative : Bool) → (file given : List ℕ) → List ℕ
path_from relative file given = if relative && not (begins_with_slash given) then folder_of file ++ given else given

-- The paths of the files of keys.
use Rattle.std.specs.Prelude.{ℕ, List, [], ◌∷◌, Option, Some, None, bytes_eq, if◌then◌else◌}
use Rattle.kc_macros_model.specs.ReadingStates.{ExpandedFile}

-- the path of the first expanded file with this key, if there is one
abbrev pub path_of_key : List ExpandedFile → List ℕ → Option (List ℕ)
path_of_key [] key = None
path_of_key (f ∷ fs) key = if bytes_eq f.key key then Some f.path else path_of_key fs key

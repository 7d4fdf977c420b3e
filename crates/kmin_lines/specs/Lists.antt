-- The paths in the bytes of a list of paths.
use Rattle.std.specs.Prelude.{ℕ, Bool, List, [], ◌∷◌, true, false, filter}
use Rattle.kc_value.specs.Lines.{pieces, has_no_byte}

-- the byte that ends each path in a list of paths: NUL if `ended_by_nul`, else a newline
abbrev pub ender_of : (ended_by_nul : Bool) → ℕ
ender_of true = 0
ender_of false = 10

-- whether a path isn't empty
abbrev pub has_bytes : List ℕ → Bool
has_bytes [] = false
has_bytes (b ∷ path) = true

-- the paths in the bytes of a list of paths, in order; empty paths are left out, and the last path may lack its end byte
abbrev pub paths_in : (ended_by_nul : Bool) → (list : List ℕ) → List (List ℕ)
paths_in ended_by_nul list = filter has_bytes (pieces (ender_of ended_by_nul) list)

-- whether a path has no newline
abbrev pub is_one_line : List ℕ → Bool
is_one_line path = has_no_byte 10 path

-- The pieces of a reference, and their values, one by one.
use Rattle.std.specs.Prelude.{ℕ, ◌+◌, nat_lt, List, [], ◌∷◌, ◌++◌, take, drop, length, if◌then◌else◌}
use Rattle.kc_macros_model.specs.References.{pieces}
use Rattle.kc_macros_model.specs.Programs.{Program, returns, ◌>>=◌}
use Rattle.kc_macros_model.specs.Variables.{Value}
use Rattle.kc_macros_model.specs.Expansion.{piece_values}

-- the program that gives the values of all pieces of a reference, by the values of the first ones and by the pieces that follow
abbrev pub pieces_left : (List ℕ → Program Value) → List Value → List (List ℕ) → Program (List Value)
pieces_left expand found ps = piece_values expand ps >>= λ rest. returns (found ++ rest)

-- the pieces of a reference, by the length of its first piece and the bytes between its parentheses
abbrev pub pieces_from : ℕ → List ℕ → List (List ℕ)
pieces_from n inside = if nat_lt n (length inside) then take n inside ∷ pieces 0 (drop (n + 1) inside) else inside ∷ []

-- Lines, and other pieces of a text.
use Rattle.std.specs.Prelude.{◌≡◌, ℕ, Bool, not, List, [], ◌∷◌, ◌++◌, ◌⊎◌, ◌==◌, if◌then◌else◌}
use Rattle.std.specs.List.{list_all, list_any, count_by, onto_first}

-- the pieces of a text, each ended by the byte `ender`, which isn't part of the piece; the last piece may lack that byte
abbrev pub pieces : (ender : ℕ) → List ℕ → List (List ℕ)
pieces ender [] = []
pieces ender (b ∷ bytes) = if b == ender then [] ∷ pieces ender bytes else onto_first b (pieces ender bytes)

-- whether a text has no byte `byte`
abbrev pub has_no_byte : (byte : ℕ) → List ℕ → Bool
has_no_byte byte text = list_all (λ b. not (b == byte)) text

-- whether a text has a newline
abbrev pub has_newline : List ℕ → Bool
has_newline text = list_any (λ b. b == 10) text

-- the number of newlines in a text
abbrev pub newline_count : List ℕ → ℕ
newline_count text = count_by (λ b. b == 10) text

-- a text consists of whole lines: it is empty, or has a newline at its end
abbrev pub HasWholeLines : List ℕ → Type 0
HasWholeLines text = (text ≡ []) ⊎ ((front : List ℕ) × (text ≡ front ++ 10 ∷ []))

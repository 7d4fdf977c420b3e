-- The lines of a text, and those of them that aren't in another text.
use Rattle.std.specs.Prelude.{◌≡◌, ℕ, Bool, true, false, ◌&&◌, List, [], ◌∷◌, ◌++◌, ◌⊎◌, ◌==◌, length, map, if◌then◌else◌}
use Rattle.std.specs.Str.{bytes_eq}
use Rattle.kc_value.specs.Lines.{pieces}

-- a text consists of this piece, the byte `ender` and this rest; or of this piece alone, and the rest is empty
abbrev pub BeginsWithPiece : (ender : ℕ) → (text piece rest : List ℕ) → Type 0
BeginsWithPiece ender text piece rest = (text ≡ piece ++ ender ∷ rest) ⊎ ((text ≡ piece) × (rest ≡ []))

-- a line without the carriage return at its end, if it has one
abbrev pub without_carriage_return : List ℕ → List ℕ
without_carriage_return [] = []
without_carriage_return (b ∷ []) = if b == 13 then [] else b ∷ []
without_carriage_return (b ∷ c ∷ line) = b ∷ without_carriage_return (c ∷ line)

-- the lines of a text, each without a carriage return at its end; the last needs no newline
abbrev pub lines_of : List ℕ → List (List ℕ)
lines_of text = map without_carriage_return (pieces 10 text)

-- whether two lists have the same lines in the same order
abbrev pub are_same : (lines others : List (List ℕ)) → Bool
are_same [] [] = true
are_same (line ∷ lines) (other ∷ others) = bytes_eq line other && are_same lines others
are_same lines others = false

-- whether two texts have the same lines in the same order: they differ at most in carriage returns at the ends of lines, and in
-- whether the last line has a newline
abbrev pub have_same_lines : (text other : List ℕ) → Bool
have_same_lines text other = are_same (lines_of text) (lines_of other)

-- a list of lines without the first one that equals the line `line`, if there is one
abbrev pub without_one : (line : List ℕ) → List (List ℕ) → List (List ℕ)
without_one line [] = []
without_one line (other ∷ lines) = if bytes_eq line other then lines else other ∷ without_one line lines

-- the lines of a list that are left when each line of `others` takes away one line that equals it
abbrev pub left_over : List (List ℕ) → (others : List (List ℕ)) → List (List ℕ)
left_over lines [] = lines
left_over lines (other ∷ others) = left_over (without_one other lines) others

-- how many lines of a text aren't in the text `other`, where each line of `other` matches at most one equal line
abbrev pub count_lines_not_in : (text other : List ℕ) → ℕ
count_lines_not_in text other = length (left_over (lines_of text) (lines_of other))

-- Names similar to a mistyped word.
use Rattle.std.specs.Prelude.{ℕ, ◌+◌, ◌==◌, List, [], ◌∷◌, ◌++◌, codes, position, take, drop, Option, Some, None, length, nat_le, nat_lt, if◌then◌else◌}
use Rattle.std.specs.Option.{option_or}
use Rattle.std.specs.Str.{chars}
use Rattle.strsim.specs.Edits.{osa_table}

-- the fewest edits that turn one text into the other: adding, dropping or changing a character, or swapping two neighbours
abbrev pub steps_between : (a b : List ℕ) → ℕ
steps_between a b = (osa_table (chars a) (chars b)).last_row (length (chars b))

-- a message with a tip inserted after its first line: that the similar name `name` exists; unchanged if it has no newline
abbrev pub with_tip : (name message : List ℕ) → List ℕ
with_tip name message = elim (position (λ b. b == 10) message) [
  | Some n ↦ (((take n message ++ codes "\n\n  tip: a similar name exists: '") ++ name) ++ codes "'\n") ++ drop (n + 1) message
  | None ↦ message
]

-- the first of these names that is at most `most` edits from a word, if there is one
abbrev pub first_near : (word : List ℕ) → (most : ℕ) → (names : List (List ℕ)) → Option (List ℕ)
first_near word most [] = None
first_near word most (name ∷ names) = if nat_le (steps_between word name) most then Some name else first_near word most names

-- the first of these names at most one edit from a word, or if there is none and the word has six bytes or more, at most two
abbrev pub nearest : (word : List ℕ) → (names : List (List ℕ)) → Option (List ℕ)
nearest word names = option_or (first_near word 1 names) (if nat_lt (length word) 6 then None else first_near word 2 names)

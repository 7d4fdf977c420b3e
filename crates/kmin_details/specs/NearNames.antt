-- Names that are near a word.
use Rattle.std.specs.Prelude.{ℕ, ◌==◌, List, Option, length, find, nat_eq}
use Rattle.std.specs.Option.{option_or}
use Rattle.strsim.specs.Edits.{levenshtein_row}

-- the fewest changes that lead from one name to another: each adds, drops or replaces a byte
abbrev pub changes : (from to : List ℕ) → ℕ
changes from to = levenshtein_row nat_eq from to (length to)

-- the first of these names that is this many changes from a word
abbrev pub first_at : (word : List ℕ) (count : ℕ) (names : List (List ℕ)) → Option (List ℕ)
first_at word count names = find (λ name. changes word name == count) names

-- the name nearest to a word: the first of those with the fewest changes, of 1 to 3
abbrev pub nearest : (word : List ℕ) (names : List (List ℕ)) → Option (List ℕ)
nearest word names = option_or (first_at word 1 names) (option_or (first_at word 2 names) (first_at word 3 names))

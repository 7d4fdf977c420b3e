-- Lists of texts, by slices.
use Rattle.std.specs.Prelude.{ℕ, List, map}
use Rattle.std.specs.Borrow.{Bor}

-- the bytes of each slice of a list, as a text
abbrev pub texts_of_slices : List (Bor (List ℕ)) → List (List ℕ)
texts_of_slices ts = map (λ (t : Bor (List ℕ)). t.now) ts

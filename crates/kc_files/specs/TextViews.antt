-- Lists of texts, by vectors of vectors.
use Rattle.std.specs.Prelude.{ℕ, List, Vec, map}
use Rattle.std.specs.declared.alloc.Global.{Global}

-- the bytes of each vector of a list, as a text
abbrev pub items_of : List (Vec ℕ Global) → List (List ℕ)
items_of vs = map (λ (v : Vec ℕ Global). v.items) vs

-- the bytes of each vector in a vector, as a text
abbrev pub texts_of : Vec (Vec ℕ Global) Global → List (List ℕ)
texts_of vs = items_of vs.items

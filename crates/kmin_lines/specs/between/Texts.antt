-- Texts, lists of texts and files, as lists of bytes.
use Rattle.std.specs.Prelude.{ℕ, List, map}
use Rattle.std.specs.Borrow.{Bor}
use Rattle.std.specs.Global.{Vec}

-- the bytes of texts
abbrev pub texts_of : List (Bor (List ℕ)) → List (List ℕ)
texts_of texts = map (λ (text : Bor (List ℕ)). text.now) texts

-- the bytes of the words of each list
abbrev pub lists_view : List (Vec (Bor (List ℕ))) → List (List (List ℕ))
lists_view lists = map (λ (list : Vec (Bor (List ℕ))). texts_of list.items) lists

-- the bytes of files
abbrev pub files_view : List (Vec ℕ) → List (List ℕ)
files_view files = map (λ (file : Vec ℕ). file.items) files

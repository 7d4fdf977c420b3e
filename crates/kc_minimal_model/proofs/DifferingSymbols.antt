-- Values that aren't the same differ at a symbol.
use Rattle.kc_minimal_model.proofs.Common.{◌≡◌, ◌≢◌, ℕ, IsTrue, List, [], ◌∷◌, Option, Some, None, length, refl, sym, ap, ◌∙◌, filter_map, cons_option, Tree, IsConsistent, FitsValues, UnitValue, value_of_symbol, symbol_numbers, Difference, difference_at, differences, HaveSameValues, DifferAtASymbol}
use Rattle.kc_rules_model.specs.Shapes.{value_fits}
use Rattle.kc_minimal_model.proofs.DifferenceLaws.{differences_are_exact, none_left, same_as_itself}

-- a list of what some elements give, that isn't empty, has one of them
found_some : {X Z : Type 0} (f : X → Option Z) (xs : List X) (z : Z) (zs : List Z) → filter_map f xs ≡ z ∷ zs → (x : X) × (y : Z) × (f x ≡ Some y)
found_some f [] z zs e = cc
found_some {X = X} {Z = Z} f (x ∷ xs) z zs e = go (f x) refl e (found_some f xs z zs) where
  go : (o : Option Z) → f x ≡ o → cons_option o (filter_map f xs) ≡ z ∷ zs → (filter_map f xs ≡ z ∷ zs → (w : X) × (y : Z) × (f w ≡ Some y))
      → (w : X) × (y : Z) × (f w ≡ Some y)
  go (Some y) here e next = (x, y, here)
  go None here e next = next e

abbrev Fits : Tree → List UnitValue → Type 0
Fits tree values = FitsValues (length tree.units) (λ u x. IsTrue (value_fits tree u x)) values

-- the same value at a symbol is no difference
no_difference : (tree : Tree) (v w : List UnitValue) (s : ℕ) → value_of_symbol tree v s ≡ value_of_symbol tree w s
    → difference_at s (value_of_symbol tree v s) (value_of_symbol tree w s) ≡ None
no_difference tree v w s same = ap (difference_at s (value_of_symbol tree v s)) (sym same) ∙ same_as_itself s (value_of_symbol tree v s)

-- two fitting valuations are equal if every symbol has the same value in both
pub same_values : (tree : Tree) (v w : List UnitValue) → IsConsistent tree → Fits tree v → Fits tree w → HaveSameValues tree v w → v ≡ w
same_values tree v w sound fits_v fits_w same =
    (differences_are_exact tree v w sound fits_v fits_w).0 (none_left (λ s. difference_at s (value_of_symbol tree v s) (value_of_symbol tree w s))
    (symbol_numbers tree) (λ s. no_difference tree v w s (same s)))

-- two fitting valuations that aren't equal give some symbol different values
pub differ_somewhere : (tree : Tree) (v w : List UnitValue) → IsConsistent tree → Fits tree v → Fits tree w → v ≢ w → DifferAtASymbol tree v w
differ_somewhere tree v w sound fits_v fits_w differ = go (differences tree v w) refl where
  go : (ds : List Difference) → differences tree v w ≡ ds → (s : ℕ) × (value_of_symbol tree v s ≢ value_of_symbol tree w s)
  go [] e = absurd (differ ((differences_are_exact tree v w sound fits_v fits_w).0 e))
  go (d ∷ ds) e =
      let found = found_some (λ s. difference_at s (value_of_symbol tree v s) (value_of_symbol tree w s)) (symbol_numbers tree) d ds e in
      (found.0, λ same. (let none = no_difference tree v w found.0 same in let some = found.2 in cc (none, some)))

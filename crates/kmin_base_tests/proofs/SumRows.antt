-- the rows of a system of sums
use Rattle.std.proofs.Common.{◌≡◌, ℕ, zero, suc, ◌<◌, List, [], ◌∷◌, length, get_or, refl, sym, ◌∙◌, ap, arith}
use Rattle.std.specs.Prelude.{Vec}
use Rattle.std.specs.Global.{Global}
use Rattle.kmin_base_tests.specs.Sums.{row_at}

-- the row of a unit is the list at its place in the rows
pub row_at-is : (rows : List (Vec ℕ Global)) (u : ℕ) (d : Vec ℕ Global) → u < length rows → row_at rows u ≡ (get_or rows u d).items
row_at-is [] u d h = absurd (omega arith)
row_at-is (row ∷ rows) zero d h = refl
row_at-is (row ∷ rows) (suc u) d h = row_at-is rows u d (omega arith)

-- a list that is read from the rows at the place of a unit is the row of that unit
pub row_is : (rows : List (Vec ℕ Global)) (row : List ℕ) (item : Vec ℕ Global) (u : ℕ) → u < length rows → item ≡ get_or rows u item → row ≡ item.items
    → row ≡ row_at rows u
row_is rows row item u h is same = same ∙ ap (λ (v : Vec ℕ Global). v.items) is ∙ sym (row_at-is rows u item h)

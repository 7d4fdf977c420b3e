-- the frame law and the restore law of sums
use Rattle.std.proofs.Common.{◌≡◌, ◌≢◌, ℕ, suc, ◌+◌, min, List, [], ◌∷◌, Option, Some, None, length, slice_index, slice_get, sum_by, IfSome, unwrap_or, Vec, refl, arith, ap, sym, ◌∙◌}
use Rattle.std.specs.Global.{Global}
use Rattle.std.proofs.lemmas.List.Sums.{sum_by-cons}
use Rattle.std.proofs.lemmas.Option.{unwrap_or-slice_get}
use Rattle.kc_solver.specs.Solutions.{KeepsFrame, Restores, AgreesOn}
use Rattle.kmin_base_tests.specs.Sums.{row_at, sum_rule, IsSmall}

same_index : (v w : List ℕ) (d : ℕ) → slice_get v d ≡ slice_get w d → slice_index v d ≡ slice_index w d
same_index v w d e = sym (unwrap_or-slice_get v d 0) ∙ ap (λ o. unwrap_or o 0) e ∙ unwrap_or-slice_get w d 0

same_sum : (v w units : List ℕ) → AgreesOn units v w → sum_by (λ d. slice_index v d) units ≡ sum_by (λ d. slice_index w d) units
same_sum v w [] agree = refl
same_sum v w (d ∷ units) agree =
    let first = same_index v w d (agree d (0, omega arith, refl)) in
    let rest = same_sum v w units (λ x has. agree x (suc has.0, omega (arith, has.1), has.2)) in
    omega (arith, sum_by-cons (λ x. slice_index v x) d units, sum_by-cons (λ x. slice_index w x) d units)

-- in each test system of sums, values that agree on the dependencies of a unit give it the same value (the frame law)
pub sums_keep_the_frame : (rows : List (Vec ℕ Global)) → KeepsFrame (length rows) (row_at rows) (sum_rule rows) IsSmall
sums_keep_the_frame rows = record { same = λ u x v w inside v_size w_size fits agree. at u x v w agree } where
  at : (u : ℕ) (x : Option ℕ) (v w : List ℕ) → AgreesOn (row_at rows u) v w → sum_rule rows u x v ≡ sum_rule rows u x w
  at u (Some y) v w agree = refl
  at u None v w agree = ap (λ n. min 1000 (1 + n)) (same_sum v w (row_at rows u) agree)

-- in each test system of sums, a value that a unit has only due to a user's number is also its value if the user's number is
-- that value
pub sums_restore : (rows : List (Vec ℕ Global)) → Restores (length rows) (sum_rule rows) (λ x. Some x) IsSmall
sums_restore rows = record { restored = λ u x v inside v_size fits differs. at u x v fits differs } where
  at : (u : ℕ) (x : Option ℕ) (v : List ℕ) → IfSome x (IsSmall u) → sum_rule rows u x v ≢ sum_rule rows u None v
      → (again : ℕ) × (Some (sum_rule rows u x v) ≡ Some again) × IsSmall u again × (sum_rule rows u (Some again) v ≡ sum_rule rows u x v)
  at u (Some y) v fits differs = (y, refl, fits, refl)
  at u None v fits differs = absurd (differs refl)

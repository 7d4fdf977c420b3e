-- Names are at least as many changes apart as their lengths differ.
use Rattle.std.proofs.Common.{◌≡◌, ℕ, zero, suc, ◌+◌, ◌<◌, ◌≤◌, Bool, true, false, nat_eq, List, [], ◌∷◌, length, nat_le, ◌==◌, ◌||◌, refl, arith, ◌⊎◌, inl, inr}
use Rattle.std.proofs.lemmas.Int.{clamps}
use Rattle.std.proofs.lemmas.Bool.{eqb-true, le-leb, leb-false, leb-true}
use Rattle.std.specs.Prelude.{if◌then◌else◌}
use Rattle.strsim.specs.Edits.{cost_at, next_row, rows}
use Rattle.kmin_details.specs.NearNames.{changes}
use Rattle.kmin_details.specs.between.FewestChanges.{changes_or_limit}

-- in the row after n elements, the number at a place differs from neither n nor the place by more than the other one
IsWide : (row : ℕ → ℕ) (n : ℕ) → Type 0
IsWide row n = (k : ℕ) → (n ≤ row k + k) × (k ≤ row k + n)

wide_row : (c before : ℕ → ℕ) (n : ℕ) → IsWide before n → (k : ℕ) → (suc n ≤ next_row c before (suc n) k + k) × (k ≤ next_row c before (suc n) k + suc n)
unfolding next_row IsWide
wide_row c before n h zero = (omega arith, omega arith)
wide_row c before n h (suc k) =
    let step = wide_row c before n h k in
    let here = h k in
    let next = h (suc k) in
    (omega (arith, clamps), omega (arith, clamps))

wide_rows : (xs ys : List ℕ) (n : ℕ) (before : ℕ → ℕ) → IsWide before n → (k : ℕ)
    → (n + length xs ≤ rows nat_eq xs ys n before k + k) × (k ≤ rows nat_eq xs ys n before k + (n + length xs))
unfolding rows IsWide
wide_rows [] ys n before h k = let here = h k in (omega arith, omega arith)
wide_rows (x ∷ xs) ys n before h k =
    let rest = wide_rows xs ys (suc n) (next_row (cost_at nat_eq x ys) before (suc n)) (wide_row (cost_at nat_eq x ys) before n h) k in
    (omega arith, omega arith)

pub changes_bound : (from to : List ℕ) → (length from ≤ changes from to + length to) × (length to ≤ changes from to + length from)
unfolding IsWide
changes_bound from to =
    let all = wide_rows from to 0 (λ j. j) (λ k. (omega arith, omega arith)) (length to) in
    (omega arith, omega arith)

-- a number of changes that is 0, or as much as a limit, counts as the limit
pub not_below : (count limit : ℕ) → (count ≡ 0) ⊎ (limit ≤ count) → limit ≡ changes_or_limit count limit
not_below count limit (inl none) = rw none refl
not_below count limit (inr far) = at (count == 0)
  where
    at : (b : Bool) → limit ≡ (if b || nat_le limit count then limit else count)
    at true = refl
    at false = rw (le-leb limit count far) refl

-- so does any where the limit is at most 1
pub least_limit : (count limit : ℕ) → limit ≤ 1 → limit ≡ changes_or_limit count limit
least_limit zero limit h = refl
least_limit (suc count) limit h = not_below (suc count) limit (inr (omega arith))

at_tests : (count limit : ℕ) (none far : Bool) → (count == 0) ≡ none → nat_le limit count ≡ far
    → (((if none || far then limit else count) < limit) → (0 < count) × (count < limit) × ((if none || far then limit else count) ≡ count))
    × ((limit ≤ (if none || far then limit else count)) → (count ≡ 0) ⊎ (limit ≤ count))
at_tests count limit true far e f = (λ h. absurd (omega arith), λ h. inl (eqb-true count 0 e))
at_tests count limit false true e f = (λ h. absurd (omega arith), λ h. inr (leb-true limit count f))
at_tests count limit false false e f =
    let some : 0 < count = positive count e in
    let less : count < limit = leb-false limit count f in
    (λ h. (some, less, refl), λ h. inr h)
  where
    positive : (n : ℕ) → (n == 0) ≡ false → 0 < n
    positive zero h = cc
    positive (suc n) h = omega arith

-- what is below a limit, and what isn't
pub below : (count limit : ℕ) → changes_or_limit count limit < limit → (0 < count) × (count < limit) × (changes_or_limit count limit ≡ count)
below count limit = (at_tests count limit (count == 0) (nat_le limit count) refl refl).0

pub passed_over : (count limit : ℕ) → limit ≤ changes_or_limit count limit → (count ≡ 0) ⊎ (limit ≤ count)
passed_over count limit = (at_tests count limit (count == 0) (nat_le limit count) refl refl).1

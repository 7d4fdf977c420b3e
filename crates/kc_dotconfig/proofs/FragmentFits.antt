-- The fragments that fit a tree.
use Rattle.kc_dotconfig.proofs.Common.{◌≡◌, ◌⊎◌, inl, inr, ℕ, zero, suc, ◌+◌, ◌<◌, ◌≤◌, true, false, IsTrue, List, [], ◌∷◌, length, get_or, Some, refl, sym, ◌∙◌, ap, subst, arith, slice_get, slice_index, IsStrictlyIncreasing, false≢true, Tree, UserValue, user_fits, FitsTree, units_of, next_at}
use Rattle.std.proofs.lemmas.Bool.{cases_lt}

same_unit : (p q : ℕ × UserValue) → Some p ≡ Some q → p.0 ≡ q.0
same_unit p q e = let same : p ≡ q = cc in ap (λ (r : ℕ × UserValue). r.0) same

pub at_item : (es : List (ℕ × UserValue)) (i : ℕ) (r : ℕ × UserValue) → i < length es → r ≡ get_or es i r → slice_get es i ≡ Some r
at_item [] i r h is = absurd (omega (arith, h))
at_item (e ∷ es) zero r h is = ap Some (sym is)
at_item (e ∷ es) (suc i) r h is = at_item es i r (omega (arith, h)) is

pub unit_is : (es : List (ℕ × UserValue)) (i u : ℕ) (x : UserValue) → slice_get es i ≡ Some (u, x) → slice_index (units_of es) i ≡ u
unit_is [] i u x at = cc
unit_is (e ∷ es) zero u x at = same_unit e (u, x) at
unit_is (e ∷ es) (suc i) u x at = unit_is es i u x at

pub within : (es : List (ℕ × UserValue)) (i u : ℕ) (x : UserValue) → slice_get es i ≡ Some (u, x) → i < length (units_of es)
within [] i u x at = cc
within (e ∷ es) zero u x at = omega arith
within (e ∷ es) (suc i) u x at = let h = within es i u x at in omega (arith, h)

not_below : (es : List (ℕ × UserValue)) (i u : ℕ) (x : UserValue) → slice_get es i ≡ Some (u, x) → IsStrictlyIncreasing (units_of es)
    → u < next_at (units_of es) i → ⊥
not_below es zero u x at rises low = omega (arith, low)
not_below es (suc k) u x at rises low =
    let n : k + 1 ≡ suc k = omega arith in
    let h = within es (suc k) u x at in
    let less = rises k (omega (arith, h, n)) in
    let is : slice_index (units_of es) (k + 1) ≡ u = ap (slice_index (units_of es)) n ∙ unit_is es (suc k) u x at in
    omega (arith, less, is, low)

pub unfit : (tree : Tree) (es : List (ℕ × UserValue)) (i u : ℕ) (x : UserValue) → slice_get es i ≡ Some (u, x)
    → (u < next_at (units_of es) i) ⊎ ((length tree.units ≤ u) ⊎ (user_fits tree u x ≡ false)) → FitsTree tree es → ⊥
unfit tree es i u x at why fits = elim why [
  | inl low ↦ not_below es i u x at fits.ascending low
  | inr other ↦ let own = fits.each i u x at in elim other [
    | inl high ↦ (let h = own.0 in omega (arith, h, high))
    | inr odd ↦ false≢true (sym odd ∙ own.1)
  ]
]

pub next_rises : (es : List (ℕ × UserValue)) (i k u : ℕ) (x : UserValue) → slice_get es i ≡ Some (u, x) → next_at (units_of es) i ≤ u
    → ((j : ℕ) → j + 1 < i → slice_index (units_of es) j < slice_index (units_of es) (j + 1)) → k + 1 < i + 1
    → slice_index (units_of es) k < slice_index (units_of es) (k + 1)
next_rises es i k u x at low before h = elim (cases_lt (k + 1) i) [
  | inl less ↦ before k less
  | inr last ↦
      let n : i ≡ suc k = omega (arith, last, h) in
      let m : k + 1 ≡ i = omega (arith, n) in
      let is : slice_index (units_of es) (k + 1) ≡ u = ap (slice_index (units_of es)) m ∙ unit_is es i u x at in
      let bound : slice_index (units_of es) k + 1 ≤ u = subst (λ j. next_at (units_of es) j ≤ u) n low in
      omega (arith, is, bound)
]

pub next_each : (tree : Tree) (es : List (ℕ × UserValue)) (i : ℕ) (v : ℕ) (y : UserValue) → slice_get es i ≡ Some (v, y) → v < length tree.units
    → user_fits tree v y ≡ true
    → ((k u : ℕ) (x : UserValue) → k < i → slice_get es k ≡ Some (u, x) → (u < length tree.units) × IsTrue (user_fits tree u x))
    → (k u : ℕ) (x : UserValue) → k < i + 1 → slice_get es k ≡ Some (u, x) → (u < length tree.units) × IsTrue (user_fits tree u x)
next_each tree es i v y here low fits before k u x h at = elim (cases_lt k i) [
  | inl less ↦ before k u x less at
  | inr last ↦
      let n : k ≡ i = omega (arith, last, h) in
      let both : Some (u, x) ≡ Some (v, y) = sym at ∙ ap (slice_get es) n ∙ here in
      let same : (u, x) ≡ (v, y) = cc in
      let unit : u ≡ v = ap (λ (p : ℕ × UserValue). p.0) same in
      let value : x ≡ y = ap (λ (p : ℕ × UserValue). p.1) same in
      (subst (λ w. w < length tree.units) (sym unit) low, ap (λ w. user_fits tree w x) unit ∙ ap (user_fits tree v) value ∙ fits)
]

pub next_is : (es : List (ℕ × UserValue)) (i u : ℕ) (x : UserValue) → slice_get es i ≡ Some (u, x) → u + 1 ≡ next_at (units_of es) (i + 1)
next_is es i u x at =
    let n : i + 1 ≡ suc i = omega arith in
    ap (λ v. v + 1) (sym (unit_is es i u x at)) ∙ sym (ap (next_at (units_of es)) n)

pub all_fit : (tree : Tree) (es : List (ℕ × UserValue)) (i : ℕ) → length es ≤ i
    → ((k : ℕ) → k + 1 < i → slice_index (units_of es) k < slice_index (units_of es) (k + 1))
    → ((k u : ℕ) (x : UserValue) → k < i → slice_get es k ≡ Some (u, x) → (u < length tree.units) × IsTrue (user_fits tree u x)) → FitsTree tree es
all_fit tree es i end rises each = record {
  ascending = λ k h. rises k (let n = same es in omega (arith, h, n, end));
  each = λ k u x at. each k u x (let n = same es in let h = within es k u x at in omega (arith, h, n, end)) at;
} where
  same : (es : List (ℕ × UserValue)) → length (units_of es) ≡ length es
  same [] = refl
  same (e ∷ es) = let n = same es in omega (arith, n)

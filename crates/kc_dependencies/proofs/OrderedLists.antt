-- A list that ascends without repeats is determined by its elements.
use Rattle.kc_dependencies.proofs.Common.{◌≡◌, inl, inr, ℕ, ◌<◌, ◌==◌, Bool, true, false, List, [], ◌∷◌, refl, sym, ap, subst, ◌∙◌, arith, AllByRecursion, list_any, false≢true, or_cases, or_left, or_right, eqb-true, eq-eqb}

abbrev pub Rises : List ℕ → Type 0
Rises [] = Unit {0}
Rises (x ∷ xs) = AllByRecursion (λ y. x < y) xs × Rises xs

abbrev has : List ℕ → ℕ → Bool
has xs d = list_any (λ m. m == d) xs

here : (x : ℕ) (xs : List ℕ) → has (x ∷ xs) x ≡ true
here x xs = or_left (x == x) (has xs x) (eq-eqb x x refl)

above : (x d : ℕ) (xs : List ℕ) → AllByRecursion (λ y. x < y) xs → has xs d ≡ true → x < d
above x d [] all e = absurd (false≢true e)
above x d (m ∷ ms) all e = elim (or_cases (m == d) (has ms d) e) [
  | inl h ↦ subst (λ n. x < n) (eqb-true m d h) all.0
  | inr h ↦ above x d ms all.1 h
]

pub both_same : (a b : Bool) → (a ≡ true → b ≡ true) → (b ≡ true → a ≡ true) → a ≡ b
both_same true true f g = refl
both_same true false f g = sym (f refl)
both_same false true f g = g refl
both_same false false f g = refl

heads : (x y : ℕ) (xs ys : List ℕ) → AllByRecursion (λ z. x < z) xs → AllByRecursion (λ z. y < z) ys → has (y ∷ ys) x ≡ true → has (x ∷ xs) y ≡ true → x ≡ y
heads x y xs ys p q a b = elim (or_cases (y == x) (has ys x) a) [
  | inl h ↦ sym (eqb-true y x h)
  | inr h ↦ elim (or_cases (x == y) (has xs y) b) [
    | inl k ↦ eqb-true x y k
    | inr k ↦ let l : y < x = above y x ys q h in let g : x < y = above x y xs p k in absurd (omega arith)
  ]
]

-- what the tail has, where the whole lists have the same
over : (x y d : ℕ) (xs ys : List ℕ) → x ≡ y → AllByRecursion (λ z. x < z) xs → has (x ∷ xs) d ≡ has (y ∷ ys) d → has xs d ≡ true → has ys d ≡ true
over x y d xs ys s p e h = elim (or_cases (y == d) (has ys d) (sym e ∙ or_right (x == d) (has xs d) h)) [
  | inl k ↦ let l : x < d = above x d xs p h in let g : y ≡ d = eqb-true y d k in absurd (omega arith)
  | inr k ↦ k
]

pub same_rising : (xs ys : List ℕ) → Rises xs → Rises ys → ((d : ℕ) → list_any (λ m. m == d) xs ≡ list_any (λ m. m == d) ys) → xs ≡ ys
same_rising [] [] p q e = refl
same_rising [] (y ∷ ys) p q e = absurd (false≢true (e y ∙ here y ys))
same_rising (x ∷ xs) [] p q e = absurd (false≢true (sym (e x) ∙ here x xs))
same_rising (x ∷ xs) (y ∷ ys) p q e =
    let s = heads x y xs ys p.0 q.0 (sym (e x) ∙ here x xs) (e y ∙ here y ys) in
    let t = same_rising xs ys p.1 q.1 (λ d. both_same (has xs d) (has ys d) (over x y d xs ys s p.0 (e d)) (over y x d ys xs (sym s) q.0 (sym (e d)))) in
    ap (λ n. n ∷ xs) s ∙ ap (λ l. y ∷ l) t

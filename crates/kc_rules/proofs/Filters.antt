-- The numbers that pass a test, one after another.
use Rattle.std.proofs.Common.{◌≡◌, ℕ, zero, suc, ◌+◌, Bool, true, false, cond, List, [], ◌∷◌, ◌++◌, refl, sym, ap, ◌∙◌, arith}
use Rattle.std.specs.List.{filter, range_with_len}

pub append_empty : (xs : List ℕ) → xs ≡ xs ++ []
append_empty [] = refl
append_empty (x ∷ xs) = ap (λ ys. x ∷ ys) (append_empty xs)

one_kept : (p : ℕ → Bool) (n : ℕ) → filter p (n ∷ []) ≡ cond (p n) (n ∷ []) []
one_kept p n = refl

filter_append_one : (p : ℕ → Bool) (xs : List ℕ) (n : ℕ) → filter p (xs ++ n ∷ []) ≡ filter p xs ++ cond (p n) (n ∷ []) []
filter_append_one p [] n = one_kept p n
filter_append_one p (x ∷ xs) n = by_test (p x) (filter_append_one p xs n) where
  by_test : (t : Bool) → filter p (xs ++ n ∷ []) ≡ filter p xs ++ cond (p n) (n ∷ []) []
      → cond t (x ∷ filter p (xs ++ n ∷ [])) (filter p (xs ++ n ∷ [])) ≡ cond t (x ∷ filter p xs) (filter p xs) ++ cond (p n) (n ∷ []) []
  by_test true e = ap (λ ys. x ∷ ys) e
  by_test false e = e

range_append_one : (a n : ℕ) → range_with_len a (suc n) ≡ range_with_len a n ++ (a + n) ∷ []
range_append_one a zero = ap (λ k. k ∷ []) (omega arith)
range_append_one a (suc n) = ap (λ ys. a ∷ ys) (range_append_one (a + 1) n ∙ ap (λ k. range_with_len (a + 1) n ++ k ∷ []) (omega arith))

-- the numbers below `n` that pass a test, with `n` after them if it passes, are the numbers below `n + 1` that pass it
pub filter_more : (p : ℕ → Bool) (n s : ℕ) (t : Bool) (old new : List ℕ) → s ≡ n → t ≡ p s → old ≡ filter p (range_with_len 0 n)
    → new ≡ old ++ cond t (s ∷ []) [] → new ≡ filter p (range_with_len 0 (n + 1))
filter_more p n s t old new es et eo en =
    en ∙ ap (λ ys. ys ++ cond t (s ∷ []) []) eo
    ∙ ap (λ u. filter p (range_with_len 0 n) ++ cond u (s ∷ []) []) et
    ∙ ap (λ k. filter p (range_with_len 0 n) ++ cond (p k) (k ∷ []) []) es
    ∙ sym (ap (λ k. filter p (range_with_len 0 k)) next ∙ ap (filter p) (range_append_one 0 n ∙ ap (λ k. range_with_len 0 n ++ k ∷ []) zero_plus)
    ∙ filter_append_one p (range_with_len 0 n) n)
  where
    next : n + 1 ≡ suc n
    next = omega arith

    zero_plus : 0 + n ≡ n
    zero_plus = omega arith

-- and so for a number that passes, and for one that doesn't
pub filter_kept : (p : ℕ → Bool) (n s : ℕ) (old new : List ℕ) → s ≡ n → p s ≡ true → old ≡ filter p (range_with_len 0 n)
    → new ≡ old ++ s ∷ [] → new ≡ filter p (range_with_len 0 (n + 1))
filter_kept p n s old new es passes eo en = filter_more p n s true old new es (sym passes) eo en

pub filter_skipped : (p : ℕ → Bool) (n s : ℕ) (old : List ℕ) → s ≡ n → p s ≡ false → old ≡ filter p (range_with_len 0 n)
    → old ≡ filter p (range_with_len 0 (n + 1))
filter_skipped p n s old es fails eo = filter_more p n s false old old es (sym fails) eo (append_empty old)

-- Symbols that are listed, found one after the other.
use Rattle.std.proofs.Common.{◌≡◌, ℕ, ◌+◌, ◌<◌, Bool, true, false, cond, List, [], ◌∷◌, ◌++◌, All, append-nil, refl, sym, ◌∙◌, ap, arith}
use Rattle.std.specs.List.{filter, range_with_len}
use Rattle.std.proofs.lemmas.List.Elements.{filter-append, All-append, All-cons, All-nil}
use Rattle.kmin_explain.proofs.EachOnce.{range_more}

filter_one : (p : ℕ → Bool) (s : ℕ) (b : Bool) → p s ≡ b → filter p (s ∷ []) ≡ cond b (s ∷ []) []
filter_one p s b is = ap (λ x. cond x (s ∷ []) []) is

appended_or_not : (b : Bool) (old : List ℕ) (s : ℕ) → cond b (old ++ s ∷ []) old ≡ old ++ cond b (s ∷ []) []
appended_or_not true old s = refl
appended_or_not false old s = sym (append-nil old)

-- one more symbol, which is listed or isn't
pub one_more_listed : (p : ℕ → Bool) (i s : ℕ) (b : Bool) (old new : List ℕ) → s ≡ i → b ≡ p s → old ≡ filter p (range_with_len 0 i)
    → new ≡ cond b (old ++ s ∷ []) old → new ≡ filter p (range_with_len 0 (i + 1))
one_more_listed p i s b old new same is before added =
    added ∙ appended_or_not b old s ∙ ap (λ xs. old ++ xs) (sym (filter_one p s b (sym is)))
    ∙ ap (λ xs. xs ++ filter p (s ∷ [])) before ∙ ap (λ k. filter p (range_with_len 0 i) ++ filter p (k ∷ [])) (same ∙ (let e : i ≡ 0 + i = omega arith in e))
    ∙ sym (filter-append p (range_with_len 0 i) ((0 + i) ∷ [])) ∙ ap (filter p) (sym (range_more 0 i))

-- a list of symbols of the tree with one more
pub one_more_there : (n s : ℕ) (old new : List ℕ) → s < n → All (λ t. t < n) old → new ≡ old ++ s ∷ [] → All (λ t. t < n) new
one_more_there n s old new below all is =
    rw is (All-append (λ t. t < n) old (s ∷ []) all (All-cons (λ t. t < n) s [] below (All-nil (λ t. t < n))))

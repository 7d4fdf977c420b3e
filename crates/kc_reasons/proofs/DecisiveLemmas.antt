-- The numbers of the selects and implies that decide.
use Rattle.std.proofs.Common.{◌≡◌, ℕ, ◌+◌, Bool, true, false, cond, List, [], ◌∷◌, ◌++◌, refl, ap, ◌∙◌, append_assoc}
use Rattle.kc_reasons_model.specs.DecisiveLimits.{numbers_where}

-- one more element has been looked at
pub one_more : {X : Type 0} (p : X → Bool) (n : ℕ) (x : X) (xs : List X) (b : Bool) (old new all : List ℕ)
    → b ≡ p x → new ≡ old ++ cond b (n ∷ []) [] → old ++ numbers_where p n (x ∷ xs) ≡ all → new ++ numbers_where p (n + 1) xs ≡ all
one_more p n x xs b old new all is f h =
    ap (λ ns. ns ++ numbers_where p (n + 1) xs) f ∙ append_assoc old (cond b (n ∷ []) []) (numbers_where p (n + 1) xs)
    ∙ ap (λ ns. old ++ ns) (of_test b ∙ ap (λ c. cond c (n ∷ numbers_where p (n + 1) xs) (numbers_where p (n + 1) xs)) is) ∙ h
  where
    of_test : (c : Bool) → cond c (n ∷ []) [] ++ numbers_where p (n + 1) xs ≡ cond c (n ∷ numbers_where p (n + 1) xs) (numbers_where p (n + 1) xs)
    of_test true = refl
    of_test false = refl

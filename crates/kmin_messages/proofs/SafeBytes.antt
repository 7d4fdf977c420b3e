-- Tests of a choice between two values, of digits, and of joined texts.
use Rattle.std.proofs.Common.{◌≡◌, ℕ, Bool, true, false, not, cond, ◌&&◌, ◌==◌, List, ◌++◌, ap, ◌∙◌}
use Rattle.std.specs.List.{list_all}
use Rattle.std.proofs.lemmas.List.Folds.{list_all-append}
use Rattle.std.proofs.lemmas.Bool.{ne_eqb}

-- a test that both values pass is passed by the one that is chosen
pub cond_passes : {A : Type 0} (p : A → Bool) (b : Bool) (x y : A) → p x ≡ true → p y ≡ true → p (cond b x y) ≡ true
cond_passes p true x y h k = h
cond_passes p false x y h k = k

-- if all elements of two lists pass a test, so do those of the joined list
pub all_joined : (p : ℕ → Bool) (xs ys : List ℕ) → list_all p xs ≡ true → list_all p ys ≡ true → list_all p (xs ++ ys) ≡ true
all_joined p xs ys h k = list_all-append p xs ys ∙ ap (λ b. b && list_all p ys) h ∙ k

-- a byte passes a test where it is none that fails
pub not_byte : (c other : ℕ) → (c ≡ other → ⊥) → not (c == other) ≡ true
not_byte c other h = ap not (ne_eqb c other h)

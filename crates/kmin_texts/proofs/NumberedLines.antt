-- Lines of a file after others.
use Rattle.std.proofs.Common.{◌≡◌, ℕ, suc, zero, ◌-◌, ◌<◌, ◌==◌, Bool, true, false, List, [], ◌∷◌, None, drop, slice_get, refl, ap, ◌∙◌, arith, if◌then◌else◌}
use Rattle.std.proofs.lemmas.Bool.{eqb-true}
use Rattle.std.proofs.Math.Seq.{drop-nil}

-- one line less is left after the first
pub drop_next : {A : Type 0} (n : ℕ) (all xs : List A) (x : A) → 0 < n → all ≡ x ∷ xs → drop (n - 1) xs ≡ drop n all
drop_next zero all xs x h e = absurd (omega (arith, h))
drop_next (suc n) all xs x h e = let m : suc n - 1 ≡ n = omega arith in rw (e, m) refl

-- no lines are left after all of them
pub drop_none : {A : Type 0} (n : ℕ) (all : List A) → all ≡ [] → drop n all ≡ []
drop_none n all e = rw e (drop-nil n)

-- an element of a list is the first one after those before it
pub first_after : {A : Type 0} (n : ℕ) (all : List A) → slice_get (drop n all) 0 ≡ slice_get all n
first_after zero all = refl
first_after (suc n) [] = refl
first_after (suc n) (x ∷ xs) = first_after n xs

-- the first of the lines after those before a number is the line of that number
pub numbered_line : (ps rest : List (List ℕ)) (number : ℕ) (is_none : Bool) → (number == 0) ≡ is_none → 0 < number → rest ≡ drop (number - 1) ps
    → slice_get rest 0 ≡ (if number == 0 then None else slice_get ps (number - 1))
numbered_line ps rest number false e h d = rw e (ap (λ (lines : List (List ℕ)). slice_get lines 0) d ∙ first_after (number - 1) ps)
numbered_line ps rest number true e h d = absurd (let z = eqb-true number 0 e in omega (arith, z, h))

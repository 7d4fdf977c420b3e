-- The names of a tree's symbols, one after another.
use Rattle.std.proofs.Common.{◌≡◌, ℕ, ◌+◌, suc, zero, List, [], ◌∷◌, ◌++◌, Some, take, map, slice_get, option_map, ap, sym, ◌∙◌, arith}
use Rattle.std.proofs.lemmas.Grind.{common_steps}
use Rattle.std.proofs.lemmas.List.{map-append}

-- the images of the elements up to a place and of the one there, by the image of that one
images_next : {A B : Type 0} (f : A → B) (xs : List A) (k : ℕ) (y : B) → option_map f (slice_get xs k) ≡ Some y
    → map f (take (suc k) xs) ≡ map f (take k xs) ++ y ∷ []
images_next f [] k y e = grind (arith, common_steps, e)
images_next f (x ∷ xs) zero y e = grind (arith, common_steps, e)
images_next f (x ∷ xs) (suc k) y e = ap (λ ys. f x ∷ ys) (images_next f xs k y e)

-- the same, where the images up to the place are those of a list, to which one more is appended
pub images_pushed : {A B C : Type 0} (f : A → B) (g : C → B) (xs : List A) (k : ℕ) (before after : List C) (last : C) → map g before ≡ map f (take k xs)
    → option_map f (slice_get xs k) ≡ Some (g last) → after ≡ before ++ last ∷ [] → map g after ≡ map f (take (k + 1) xs)
images_pushed f g xs k before after last same e pushed =
    let next : k + 1 ≡ suc k = omega arith in
    ap (map g) pushed ∙ map-append g before (last ∷ []) ∙ ap (λ ys. ys ++ g last ∷ []) same ∙ sym (images_next f xs k (g last) e)
    ∙ ap (λ n. map f (take n xs)) (sym next)

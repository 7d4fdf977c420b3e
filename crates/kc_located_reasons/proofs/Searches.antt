-- The first element of a list that passes a test.
use Rattle.std.proofs.Common.{◌≡◌, ◌+◌, Bool, cond, not, List, [], ◌∷◌, length, map, Some, None, refl, ap, sym, ◌∙◌}
use Rattle.std.specs.Prelude.{nat_lt, position}
use Rattle.std.specs.List.{position_or_len}
use Rattle.std.proofs.lemmas.List.{length-map}

same_place : {X Y : Type 0} (f : X → Y) (p : Y → Bool) (xs : List X) → position_or_len p (map f xs) ≡ position_or_len (λ x. p (f x)) xs
same_place f p [] = refl
same_place f p (x ∷ xs) = ap (λ n. cond (not (p (f x))) (1 + n) 0) (same_place f p xs)

-- it is where it is in the list that this one represents
pub position_mapped : {X Y : Type 0} (f : X → Y) (p : Y → Bool) (xs : List X) → position (λ x. p (f x)) xs ≡ position p (map f xs)
position_mapped f p xs =
    sym (ap (λ n. cond (nat_lt n (length (map f xs))) (Some n) None) (same_place f p xs)
    ∙ ap (λ k. cond (nat_lt (position_or_len (λ x. p (f x)) xs) k) (Some (position_or_len (λ x. p (f x)) xs)) None) (length-map xs f))

-- Lists, and none where one of them is empty.
use Rattle.std.proofs.Common.{◌||◌}
use Rattle.kc_reasons.proofs.Common.{◌≡◌, Bool, true, false, cond, List, [], ◌∷◌, map, refl, ap, sym, ◌∙◌, Vec, All, list_any, All-nil, All-same, is_empty}
use Rattle.kc_reasons_model.specs.Reasons.{unless_one_lacks_nothing}

-- what the elements of several lists represent
abbrev pub each : (X Y : Type 0) → (X → Y) → List (Vec X) → List (List Y)
each X Y f vs = map (λ (v : Vec X). map f v.items) vs

abbrev pub has_empty : (X : Type 0) → List (Vec X) → Bool
has_empty X vs = list_any (λ (v : Vec X). is_empty v.items) vs

same_empty : (X Y : Type 0) (f : X → Y) (xs : List X) → is_empty (map f xs) ≡ is_empty xs
same_empty X Y f [] = refl
same_empty X Y f (x ∷ xs) = refl

any_empty : (X Y : Type 0) (f : X → Y) (vs : List (Vec X)) → list_any is_empty (each X Y f vs) ≡ has_empty X vs
any_empty X Y f [] = refl
any_empty X Y f (v ∷ vs) = ap (λ b. b || list_any is_empty (each X Y f vs)) (same_empty X Y f v.items) ∙ ap (λ b. is_empty v.items || b) (any_empty X Y f vs)

through : (X Y : Type 0) (f : X → Y) (vs : List (Vec X)) (b : Bool) → each X Y f (cond b [] vs) ≡ cond b [] (each X Y f vs)
through X Y f vs true = refl
through X Y f vs false = refl

-- alternatives that aren't left out otherwise
pub unless_empty : (X Y : Type 0) (f : X → Y) (out : Bool) (found last : List (Vec X)) (parts : List (List Y)) → out ≡ false → each X Y f found ≡ parts
    → last ≡ cond (has_empty X found) [] found → each X Y f last ≡ cond out [] (unless_one_lacks_nothing parts)
unless_empty X Y f out found last parts without are is =
    ap (each X Y f) is ∙ through X Y f found (has_empty X found) ∙ ap (λ b. cond b [] (each X Y f found)) (sym (any_empty X Y f found))
    ∙ ap unless_one_lacks_nothing are ∙ sym (ap (λ b. cond b [] (unless_one_lacks_nothing parts)) without)

pub all_kept : (X : Type 0) (P : X → Type 0) (b : Bool) (found last : List X) → last ≡ cond b [] found → All P found → All P last
all_kept X P true found last is h = All-same P _ _ is (All-nil P)
all_kept X P false found last is h = All-same P _ _ is h

-- A list that is the front of another.
use Rattle.kc_tokens.proofs.Common.{◌≡◌, ◌≤◌, ◌++◌, List, [], ◌∷◌, length, take, drop, ap, sym, ◌∙◌, append_assoc, arith, take-append_seam}
use Rattle.std.proofs.lemmas.List.{length-take, take-append-drop, take-take}

-- a list that begins with another still does when an element is appended
pub kept_after : {X : Type 0} (old xs : List X) (x : X) → take (length old) xs ≡ old → take (length old) (xs ++ x ∷ []) ≡ old
kept_after old xs x e =
    let parts : xs ≡ old ++ drop (length old) xs = sym (take-append-drop (length old) xs) ∙ ap (λ ys. ys ++ drop (length old) xs) e in
    ap (take (length old)) (ap (λ ys. ys ++ x ∷ []) parts ∙ append_assoc old (drop (length old) xs) (x ∷ []))
    ∙ take-append_seam old (drop (length old) xs ++ x ∷ [])

-- where a list begins with a second one, and this with a third, the first begins with the third
pub kept_through : {X : Type 0} (old mid xs : List X) → take (length old) mid ≡ old → take (length mid) xs ≡ mid → take (length old) xs ≡ old
kept_through old mid xs e f =
    let shorter : length old ≤ length mid = omega (arith, ap length e, length-take (length old) mid) in
    sym (take-take (length old) (length mid) xs shorter) ∙ ap (take (length old)) f ∙ e

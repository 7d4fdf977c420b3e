-- Lists of assignments of members.
use Rattle.kc_rules.proofs.Common.{◌≡◌, Bool, true, false, ◌&&◌, List, [], ◌∷◌, length, refl, ap, ◌∙◌, arith, MemberLine, same_lines}
use Rattle.kc_rules_model.specs.Equality.{same_line}

-- lists of other lengths aren't equal
pub lengths_differ : (a b : List MemberLine) → (length a ≡ length b → ⊥) → same_lines a b ≡ false
lengths_differ [] [] other = absurd (other refl)
lengths_differ [] (l ∷ b) other = refl
lengths_differ (k ∷ a) [] other = refl
lengths_differ (k ∷ a) (l ∷ b) other =
    ap (λ t. same_line k l && t) (lengths_differ a b (λ same. other (omega arith))) ∙ none (same_line k l)
  where
    none : (t : Bool) → (t && false) ≡ false
    none true = refl
    none false = refl

-- The first kind in an order for which a condition holds is unique.
use Rattle.kc_tree_model.proofs.Common.{◌≡◌, List, [], ◌∷◌, ◌++◌, sym, ◌∙◌, subst, AllByRecursion, TreeKind, IsFirstOf}

-- a condition on kinds of faults holds for none of these kinds
abbrev pub NoneHolds : (TreeKind → Type 0) → List TreeKind → Type 0
NoneHolds condition kinds = AllByRecursion (λ kind. condition kind → ⊥) kinds

module _ (condition : TreeKind → Type 0) where
  first_in : (before before' after after' : List TreeKind) (kind kind' : TreeKind) → before ++ kind ∷ after ≡ before' ++ kind' ∷ after'
      → NoneHolds condition before
      → NoneHolds condition before' → condition kind → condition kind' → kind ≡ kind'
  first_in [] [] after after' kind kind' e none none' h h' = cc
  first_in [] (k ∷ ks) after after' kind kind' e none none' h h' = let same : kind ≡ k = cc in absurd (none'.0 (subst condition same h))
  first_in (k ∷ ks) [] after after' kind kind' e none none' h h' = let same : kind' ≡ k = cc in absurd (none.0 (subst condition same h'))
  first_in (k ∷ ks) (j ∷ js) after after' kind kind' e none none' h h' =
      first_in ks js after after' kind kind' (let same : ks ++ kind ∷ after ≡ js ++ kind' ∷ after' = cc in same) none.1 none'.1 h h'

pub one_first : (order : List TreeKind) (condition : TreeKind → Type 0) (kind kind' : TreeKind) → IsFirstOf order condition kind
    → IsFirstOf order condition kind' → kind ≡ kind'
one_first order condition kind kind' f g =
    first_in condition f.before g.before f.after g.after kind kind' (sym f.place ∙ g.place) f.none_before g.none_before f.holds g.holds

-- a condition that holds for none of some kinds and not for one more holds for none of them all
pub with_none : (condition : TreeKind → Type 0) (kinds : List TreeKind) (kind : TreeKind) → NoneHolds condition kinds → (condition kind → ⊥)
    → NoneHolds condition (kinds ++ kind ∷ [])
with_none condition [] kind none h = (h, tt)
with_none condition (k ∷ ks) kind none h = (none.0, with_none condition ks kind none.1 h)

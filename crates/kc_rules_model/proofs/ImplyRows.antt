-- The value that `imply` gives, where the two profiles differ.
use Rattle.kc_rules_model.proofs.Common.{◌≡◌, [], ◌∷◌, Option, None, refl, Tri, N, M, Y, Profile, Present, Classic, UnitValue, UserValue}
use Rattle.kc_rules_model.specs.declared.values.UnitValue.TheVariants.{Tri as TriValue}
use Rattle.kc_rules_model.specs.Rule.{rule}
use Rattle.kc_rules_model.proofs.RowTrees.{n, m, y, sets, tree_imply}

-- the value of BAZ with FOO, BAR and a user value
abbrev baz : Profile → Tri → Tri → Option UserValue → UnitValue
baz profile foo bar user = rule profile tree_imply 3 user (y ∷ TriValue foo ∷ TriValue bar ∷ n ∷ [])

-- unassigned, and set to `n`, `m`, `y`
record Line (profile : Profile) (foo bar : Tri) (unassigned with_n with_m with_y : UnitValue) : Type 0 where
  none : baz profile foo bar None ≡ unassigned
  set_n : baz profile foo bar (sets N) ≡ with_n
  set_m : baz profile foo bar (sets M) ≡ with_m
  set_y : baz profile foo bar (sets Y) ≡ with_y

present_foo_y_bar_m : Line Present Y M m n m m
unfolding rule
present_foo_y_bar_m = record { none = refl; set_n = refl; set_m = refl; set_y = refl }

classic_foo_y_bar_m : Line Classic Y M y n y y
unfolding rule
classic_foo_y_bar_m = record { none = refl; set_n = refl; set_m = refl; set_y = refl }

-- Choices.
use Rattle.kc_rules_model.proofs.Common.{◌≡◌, ℕ, [], ◌∷◌, Option, Some, None, refl, Present, UnitValue, UserValue}
use Rattle.kc_rules_model.specs.declared.values.UnitValue.TheVariants.{Member as MemberValue}
use Rattle.kc_rules_model.specs.declared.values.UserValue.TheVariants.{Member as MemberUser}
use Rattle.kc_rules_model.specs.Rule.{rule}
use Rattle.kc_rules_model.proofs.RowTrees.{by_rules, n, tree_pick, tree_optional_pick}

abbrev picks : ℕ → UnitValue
picks s = MemberValue (Some s)

abbrev chooses : ℕ → Option UserValue
chooses s = Some (MemberUser s)

-- the user's member C is invisible, so the default's B
invisible_member_gives_way : by_rules Present tree_pick (chooses 2 ∷ None ∷ []) (picks 1 ∷ n ∷ []) ≡ picks 1 ∷ n ∷ []
unfolding rule
invisible_member_gives_way = refl

-- of an optional choice that member selects nothing, and the default doesn't either
invisible_member_of_an_optional_choice : by_rules Present tree_optional_pick (chooses 2 ∷ None ∷ []) (MemberValue None ∷ n ∷ []) ≡ MemberValue None ∷ n ∷ []
unfolding rule
invisible_member_of_an_optional_choice = refl

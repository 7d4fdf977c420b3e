-- Assignments that aren't the values that they are given.
use Rattle.kc_dotconfig_model.proofs.Common.{◌≡◌, [], ◌∷◌, Some, None, refl, M, Y, sets, tree_pick}
use Rattle.kc_rules_model.specs.declared.values.UnitValue.TheVariants.{Member as MemberValue}
use Rattle.kc_rules_model.specs.declared.values.UserValue.TheVariants.{Member as MemberUser}
use Rattle.kc_rules_model.proofs.RowTrees.{n, m, y, tree_imply}
use Rattle.kc_dotconfig_model.specs.MissedAssignments.{missed}

invisible_member : (missed tree_pick (Some (MemberUser 2) ∷ None ∷ []) (MemberValue (Some 1) ∷ n ∷ []) ≡ 2 ∷ [])
    × (missed tree_pick (Some (MemberUser 2) ∷ sets Y ∷ []) (MemberValue (Some 2) ∷ y ∷ []) ≡ [])
invisible_member = (refl, refl)

-- under a classic `imply` an `m` becomes `y`
implied_y : missed tree_imply (None ∷ sets Y ∷ sets M ∷ sets M ∷ []) (y ∷ y ∷ m ∷ y ∷ []) ≡ 3 ∷ []
implied_y = refl

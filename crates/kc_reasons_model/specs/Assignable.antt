-- Which values a file can give a unit, all other values as they are.
use Rattle.std.specs.Prelude.{ℕ, Bool, ◌&&◌, List, [], ◌∷◌, Some, filter}
use Rattle.kc_value.specs.declared.tri.Tri.{Tri}
use Rattle.kc_value.specs.declared.tri.Tri.TheVariants.{N, M, Y}
use Rattle.kc_tree_model.specs.Trees.{Tree, Symbol, Choice}
use Rattle.kc_rules_model.specs.declared.profile.Profile.{Profile}
use Rattle.kc_rules_model.specs.declared.values.UnitValue.{UnitValue}
use Rattle.kc_rules_model.specs.declared.values.UserValue.TheVariants.{Tri as TriUser}
use Rattle.kc_rules_model.specs.Equality.{same_tri}
use Rattle.kc_rules_model.specs.Shapes.{tri_fits}
use Rattle.kc_rules_model.specs.Rule.{tri_rule, is_visible, is_visible_member}
use Rattle.kc_reasons_model.specs.Cases.{counts}

-- whether a bool or tristate can be set to this value: it is visible, and asked for this value it has it
abbrev pub can_be : Profile → Tree → Symbol → List UnitValue → Tri → Bool
can_be profile tree symbol values t = is_visible tree values symbol && tri_fits symbol.kind t
    && same_tri (tri_rule profile tree symbol (Some (TriUser t)) values) t

-- the values to which it can be set, `n` first
abbrev pub assignable : Profile → Tree → Symbol → List UnitValue → List Tri
assignable profile tree symbol values = filter (can_be profile tree symbol values) (N ∷ M ∷ Y ∷ [])

-- whether a choice can be set to a member: it counts, and the member is visible
abbrev pub can_select : Tree → Choice → List UnitValue → ℕ → Bool
can_select tree choice values s = counts tree choice values && is_visible_member tree values s

-- the members to which it can be set
abbrev pub assignable_members : Tree → Choice → List UnitValue → List ℕ
assignable_members tree choice values = filter (can_select tree choice values) choice.members

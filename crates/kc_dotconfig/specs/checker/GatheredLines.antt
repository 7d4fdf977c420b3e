-- What the lines of a configuration file assign to members of choices, gathered by the units of the choices.
use Rattle.std.specs.Prelude.{ℕ, List, [], ◌∷◌, ◌++◌, Option, Some, is_some, unwrap_or, if◌then◌else◌}
use Rattle.std.specs.Global.{Vec}
use Rattle.std.specs.Option.{option_map, option_or}
use Rattle.std.specs.Map.{lookup}
use Rattle.std.specs.BTreeMap.{is_at, insert_entry}
use Rattle.std.specs.Ordering.{nat_cmp}
use Rattle.kc_rules_model.specs.declared.values.MemberLine.{MemberLine}
use Rattle.kc_rules_model.specs.declared.values.UserValue.{UserValue}
use Rattle.kc_rules_model.specs.declared.values.UserValue.TheVariants.{Tri as TriUser, Text as TextUser, Member as MemberUser, Lines as LinesUser}
use Rattle.kc_dotconfig_model.specs.OtherChoices.{kept_last}

-- the user value that assignments of members are together
abbrev pub lines_user : List MemberLine → UserValue
lines_user lines = LinesUser (kept_last lines)

-- the user value of a unit in a list of user values, or none
abbrev pub value_in : List (ℕ × UserValue) → ℕ → Option UserValue
value_in es u = lookup (is_at (nat_cmp u)) es

-- the assignments that are gathered for a unit, or none
abbrev pub lines_in : List (ℕ × Vec MemberLine) → ℕ → Option (List MemberLine)
lines_in gathered u = option_map (λ (v : Vec MemberLine). v.items) (lookup (is_at (nat_cmp u)) gathered)

-- the assignments gathered for a unit with one more
abbrev pub lines_more : Option (List MemberLine) → MemberLine → Option (List MemberLine)
lines_more lines l = Some (unwrap_or lines [] ++ l ∷ [])

-- the user value of a unit, from a list of user values, or else from the gathered assignments, or none
abbrev pub held_in : List (ℕ × UserValue) → List (ℕ × Vec MemberLine) → ℕ → Option UserValue
held_in es gathered u = option_or (value_in es u) (option_map lines_user (lines_in gathered u))

-- a list of user values with that of gathered assignments, unless it has one of the unit
abbrev pub with_unit : List (ℕ × UserValue) → ℕ → List MemberLine → List (ℕ × UserValue)
with_unit es u lines = if is_some (value_in es u) then es else insert_entry nat_cmp es u (lines_user lines)

-- a list of user values with those of gathered assignments for the units that have no other
abbrev pub joined : List (ℕ × UserValue) → List (ℕ × Vec MemberLine) → List (ℕ × UserValue)
joined es [] = es
joined es (g ∷ gathered) = joined (with_unit es g.0 g.1.items) gathered

-- a user value isn't assignments of members
abbrev pub IsPlain : UserValue → Type 0
IsPlain (TriUser t) = Unit {0}
IsPlain (TextUser text) = Unit {0}
IsPlain (MemberUser s) = Unit {0}
IsPlain (LinesUser lines) = ⊥

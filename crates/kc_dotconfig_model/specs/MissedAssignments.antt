-- Symbols that don't have the value that a configuration file assigns to them.
use Rattle.std.specs.Prelude.{ℕ, Bool, true, false, not, ◌&&◌, List, Option, Some, None, ◌==◌, slice_get, filter, unwrap_or, if◌then◌else◌}
use Rattle.std.specs.List.{list_any}
use Rattle.std.specs.Option.{option_map}
use Rattle.kc_tree_model.specs.Trees.{Tree, Symbol}
use Rattle.kc_tree_model.specs.TreeLookup.{unit_of}
use Rattle.kc_solver.specs.Solutions.{user_of}
use Rattle.kc_rules_model.specs.declared.values.UnitValue.{UnitValue}
use Rattle.kc_rules_model.specs.declared.values.UnitValue.TheVariants.{Tri as TriValue, Text as TextValue, Member as MemberValue}
use Rattle.kc_rules_model.specs.declared.values.UserValue.{UserValue}
use Rattle.kc_rules_model.specs.declared.values.UserValue.TheVariants.{Tri as TriUser, Text as TextUser, Member as MemberUser, Lines as LinesUser}
use Rattle.kc_rules_model.specs.declared.values.MemberLine.{MemberLine}
use Rattle.kc_rules_model.specs.MemberLines.{last_y}
use Rattle.kc_rules_model.specs.Equality.{value_is}
use Rattle.kc_rules_model.specs.Reports.{symbol_numbers}

-- whether a unit has no user value, or its value is its user value; not for assignments of members (`is_missed_as`)
abbrev pub is_met : Option UserValue → Option UnitValue → Bool
is_met None value = true
is_met (Some (TriUser t)) value = value_is value (TriValue t)
is_met (Some (TextUser text)) value = value_is value (TextValue text)
is_met (Some (MemberUser s)) value = value_is value (MemberValue (Some s))
is_met (Some (LinesUser lines)) value = false

-- whether a member is the last of those that some assignments give `y`, visible or not
abbrev pub is_last_y : List MemberLine → ℕ → Bool
is_last_y lines s = unwrap_or (option_map (λ m. m == s) (last_y (λ m. true) lines)) false

-- whether a member is given `n` by some assignments
abbrev pub is_given_n : List MemberLine → ℕ → Bool
is_given_n lines s = list_any (λ (l : MemberLine). (l.member == s) && not l.is_y) lines

-- whether a symbol doesn't have its assigned value, by its choice (None outside choices), its number, and its unit's
-- user value and value; of a choice only the member that the user value selects can be missed; of assignments of members that
-- which comes last of those with `y`, if it isn't selected, and the selected one, if it has `n`
abbrev pub is_missed_as : Option ℕ → ℕ → Option UserValue → Option UnitValue → Bool
is_missed_as None s user value = not (is_met user value)
is_missed_as (Some c) s (Some (MemberUser member)) value = (member == s)
    && not (is_met (Some (MemberUser member)) value)
is_missed_as (Some c) s (Some (LinesUser lines)) value = if value_is value (MemberValue (Some s))
    then is_given_n lines s
    else is_last_y lines s
is_missed_as (Some c) s _ value = false

-- whether the tree has a symbol of this number, and it doesn't have its assigned value
abbrev pub is_missed : Tree → List (Option UserValue) → List UnitValue → ℕ → Bool
is_missed tree users values s =
    unwrap_or (option_map (λ (symbol : Symbol). is_missed_as symbol.choice s (user_of users (unit_of tree s)) (slice_get values (unit_of tree s))) (slice_get tree.symbols s)) false

-- the numbers of the symbols that don't have their assigned values, in order of first definition
abbrev pub missed : Tree → List (Option UserValue) → List UnitValue → List ℕ
missed tree users values = filter (is_missed tree users values) (symbol_numbers tree)

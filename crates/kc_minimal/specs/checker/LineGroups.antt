-- Lines of members, grouped by the units of their choices.
use Rattle.std.specs.Prelude.{ℕ, List, [], ◌∷◌, ◌++◌, Option, Some, None, unwrap_or, slice_get, option_and_then}
use Rattle.std.specs.Global.{Vec}
use Rattle.std.specs.Option.{option_map}
use Rattle.std.specs.Map.{lookup}
use Rattle.std.specs.BTreeMap.{is_at}
use Rattle.std.specs.Ordering.{nat_cmp}
use Rattle.kc_tree_model.specs.Trees.{Tree, Choice}
use Rattle.kc_tree_model.specs.declared.ids.Unit.{Unit as TreeUnit}
use Rattle.kc_tree_model.specs.declared.ids.Unit.TheVariants.{Symbol as of_symbol, Choice as of_choice}
use Rattle.kc_rules_model.specs.declared.values.UnitValue.{UnitValue}
use Rattle.kc_dotconfig_model.specs.declared.choice_line.ChoiceLine.{ChoiceLine}
use Rattle.kc_dotconfig_model.specs.OtherChoices.{other_line}

-- the group of a unit, or none
abbrev pub group_in : List (ℕ × Vec (ℕ × ChoiceLine)) → ℕ → Option (List (ℕ × ChoiceLine))
group_in groups u = option_map (λ (group : Vec (ℕ × ChoiceLine)). group.items) (lookup (is_at (nat_cmp u)) groups)

-- a group with one line more
abbrev pub group_more : Option (List (ℕ × ChoiceLine)) → ℕ × ChoiceLine → Option (List (ℕ × ChoiceLine))
group_more group l = Some (unwrap_or group [] ++ l ∷ [])

-- the lines in the group of a unit; none if it has no group
abbrev pub lines_at : List (ℕ × Vec (ℕ × ChoiceLine)) → ℕ → List (ℕ × ChoiceLine)
lines_at groups u = unwrap_or (group_in groups u) []

-- the line with the notice on the unit `u`, if it is a choice with a notice, from the lines of the choice
abbrev pub line_from : Tree → List UnitValue → ℕ → Option TreeUnit → List (ℕ × ChoiceLine) → Option (ℕ × ChoiceLine)
line_from tree values u None lines = None
line_from tree values u (Some (of_symbol s)) lines = None
line_from tree values u (Some (of_choice c)) lines =
    option_and_then (λ (choice : Choice). other_line tree values choice (slice_get values u) lines) (slice_get tree.choices c)

-- the line with the notice on the choice whose lines a group has
abbrev pub by_group : Tree → List UnitValue → ℕ × Vec (ℕ × ChoiceLine) → Option (ℕ × ChoiceLine)
by_group tree values g = line_from tree values g.0 (slice_get tree.units g.0) g.1.items

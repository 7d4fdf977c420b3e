-- The located needs and places are those of a symbol's reasons.
use Rattle.std.specs.Prelude.{◌≡◌, ℕ, List, map}
use Rattle.kc_tree_model.specs.Trees.{Symbol}
use Rattle.kc_rules_model.specs.declared.values.UnitValue.{UnitValue}
use Rattle.kc_value.specs.declared.tri.Tri.{Tri}
use Rattle.kc_reasons_model.specs.declared.cases.Case.{Case}
use Rattle.kc_reasons_model.specs.SymbolLines.{SymbolLines}
use Rattle.kc_reasons_model.specs.Reasons.{ExplainedRun, LowPart, low_part, names_of, needs_of, unmet_parts, place_of_case}
use Rattle.kc_located_reasons.specs.LocatedNeeds.{LocatedPart, prompts_lack_at, dependencies_lack_at}
use Rattle.kc_located_reasons.specs.GivenPlaces.{given_place}

-- a part as a run shows it
abbrev pub shown_part : ExplainedRun → LocatedPart → LowPart
shown_part run p = low_part run p.at p.part

-- law: what the prompts of a symbol need, in a run's reasons, is what they lack
abbrev pub NeedsAreLocated : Type 0
NeedsAreLocated = (run : ExplainedRun) (wanted : Tri) (symbol : Symbol) (lines : SymbolLines)
    → needs_of run wanted symbol lines ≡ map (map (shown_part run)) (prompts_lack_at (names_of run) wanted symbol lines)

-- law: and what is unmet, what its definitions' dependencies lack
abbrev pub UnmetAreLocated : Type 0
UnmetAreLocated = (run : ExplainedRun) (symbol : Symbol) (lines : SymbolLines)
    → unmet_parts run symbol lines ≡ map (map (shown_part run)) (dependencies_lack_at run.tree run.values symbol lines)

-- law: and so for the place of what gives the value
abbrev pub GivenPlacesAreOfReasons : Type 0
GivenPlacesAreOfReasons = (run : ExplainedRun) (symbol : Symbol) (lines : SymbolLines) (case : Case)
    → place_of_case run symbol lines case ≡ given_place run.tree run.values symbol lines case

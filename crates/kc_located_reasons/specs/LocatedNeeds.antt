-- What conditions lack, with the places of the lines that have it.
use Rattle.std.specs.Prelude.{List, [], map, flat_map, if◌then◌else◌}
use Rattle.kc_value.specs.declared.tri.Tri.{Tri}
use Rattle.kc_expr.specs.Expr.{Environment}
use Rattle.kc_tree_model.specs.Trees.{Tree, Symbol}
use Rattle.kc_tree_model.specs.Blocks.{Position}
use Rattle.kc_rules_model.specs.declared.values.UnitValue.{UnitValue}
use Rattle.kc_rules_model.specs.SymbolValues.{environment}
use Rattle.kc_rules_model.specs.Rule.{selected, is_from_environment}
use Rattle.kc_rules_model.specs.Reports.{is_unmet_symbol}
use Rattle.kc_reasons_model.specs.Conjuncts.{Part, lacking}
use Rattle.kc_reasons_model.specs.Places.{LocatedExpr, wanted_of}
use Rattle.kc_reasons_model.specs.SymbolLines.{SymbolLines}
use Rattle.kc_reasons_model.specs.Reasons.{unless_one_lacks_nothing}

-- a part of a condition, and the place of its line
pub record LocatedPart : Type 0 where
  pub part : Part
  pub at : Position

abbrev pub at_place : Position → Part → LocatedPart
at_place at part = record { part = part; at = at }

-- what one of the lines of a condition lacks of what is wanted of the condition
abbrev pub lacking_at : Environment → Tri → LocatedExpr → List LocatedPart
lacking_at names t p = map (at_place p.at) (lacking names (wanted_of t p) p.expr)

-- what its lines lack
abbrev pub located_lacking : Environment → Tri → List LocatedExpr → List LocatedPart
located_lacking names t parts = flat_map (lacking_at names t) parts

-- what each prompt that counts lacks of what is wanted; none where one lacks nothing
abbrev pub prompts_lack_at : Environment → Tri → Symbol → SymbolLines → List (List LocatedPart)
prompts_lack_at names wanted symbol lines =
    if is_from_environment symbol then [] else unless_one_lacks_nothing (map (located_lacking names wanted) lines.prompts)

-- what the dependency of each definition lacks of what is selected, if that is more
abbrev pub dependencies_lack_at : Tree → List UnitValue → Symbol → SymbolLines → List (List LocatedPart)
dependencies_lack_at tree values symbol lines = if is_unmet_symbol tree values symbol
    then map (located_lacking (environment tree values) (selected tree values symbol)) lines.direct
    else []

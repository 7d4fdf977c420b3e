-- The place of what gives a symbol its value.
use Rattle.std.specs.Prelude.{not, List, Option, None, option_and_then, slice_get, position}
use Rattle.kc_expr.specs.Expr.{Expr}
use Rattle.kc_tree_model.specs.Trees.{Tree, Symbol, Default, Range}
use Rattle.kc_tree_model.specs.Blocks.{Position}
use Rattle.kc_rules_model.specs.declared.values.UnitValue.{UnitValue}
use Rattle.kc_value.specs.Tri.{is_n}
use Rattle.kc_rules_model.specs.SymbolValues.{condition}
use Rattle.kc_reasons_model.specs.declared.cases.Case.{Case}
use Rattle.kc_reasons_model.specs.declared.cases.Case.TheVariants.{Tri, Text}
use Rattle.kc_reasons_model.specs.declared.cases.TriCase.TheVariants as tri
use Rattle.kc_reasons_model.specs.declared.cases.TextCase.TheVariants as text
use Rattle.kc_reasons_model.specs.SymbolLines.{SymbolLines}

-- the place of the first of some defaults whose condition isn't `n`; of some ranges
abbrev pub default_place : Tree → List UnitValue → List Default → List Position → Option Position
default_place tree values defaults places =
    option_and_then (slice_get places) (position (λ (d : Default). not (is_n (condition tree values d.condition))) defaults)

abbrev pub range_place : Tree → List UnitValue → List Range → List Position → Option Position
range_place tree values ranges places =
    option_and_then (slice_get places) (position (λ (r : Range). not (is_n (condition tree values r.condition))) ranges)

-- the place of what gives the value in a case: of the default, or of the range that raises or lowers it
abbrev pub given_place : Tree → List UnitValue → Symbol → SymbolLines → Case → Option Position
given_place tree values symbol lines (Tri tri.Default lift) = default_place tree values symbol.defaults lines.defaults
given_place tree values symbol lines (Tri tri.Environment lift) = default_place tree values symbol.defaults lines.defaults
given_place tree values symbol lines (Text text.Default) = default_place tree values symbol.defaults lines.defaults
given_place tree values symbol lines (Text text.Environment) = default_place tree values symbol.defaults lines.defaults
given_place tree values symbol lines (Text text.NoNumber) = default_place tree values symbol.defaults lines.defaults
given_place tree values symbol lines (Text text.UserLowBound) = range_place tree values symbol.ranges lines.ranges
given_place tree values symbol lines (Text text.UserHighBound) = range_place tree values symbol.ranges lines.ranges
given_place tree values symbol lines (Text text.LowBound) = range_place tree values symbol.ranges lines.ranges
given_place tree values symbol lines (Text text.HighBound) = range_place tree values symbol.ranges lines.ranges
given_place tree values symbol lines c = None

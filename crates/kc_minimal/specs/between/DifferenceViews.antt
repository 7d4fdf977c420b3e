-- Differences as contracts see them.
use Rattle.kc_rules.specs.between.SettledViews.{value_view}
use Rattle.kc_minimal_model.specs.Differences.{Difference}
use Rattle.kc_minimal.specs.declared.difference.Difference.{Difference as DifferenceOfCode}

-- a difference of two configurations as the code has it: a symbol with its left and its right value, each a tristate for a bool
-- or tristate and a text for any other type
abbrev pub difference_view : Difference → DifferenceOfCode
difference_view d = record { symbol = d.symbol; left = value_view d.left; right = value_view d.right }

-- The symbol value of each name of an arena.
use Rattle.std.specs.Prelude.{ℕ, List, Option, slice_get, option_and_then}
use Rattle.kc_expr.specs.Expr.{SymbolValue}
use Rattle.kc_tree_model.specs.Trees.{Tree}
use Rattle.kc_rules_model.specs.declared.values.UnitValue.{UnitValue}
use Rattle.kc_rules_model.specs.SymbolValues.{environment}

-- the value of the symbol whose name is at this index of a list, by the values of all units; none without the name or the symbol
abbrev pub symbol_value_at : Tree → List UnitValue → List (List ℕ) → ℕ → Option SymbolValue
symbol_value_at tree values names i = option_and_then (environment tree values) (slice_get names i)

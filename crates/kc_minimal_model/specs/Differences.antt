-- The symbols whose values differ.
use Rattle.std.specs.Prelude.{ℕ, Bool, ◌&&◌, List, Option, Some, None, bytes_eq, if◌then◌else◌}
use Rattle.std.specs.List.{filter_map}
use Rattle.kc_expr.specs.Expr.{SymbolValue}
use Rattle.kc_tree_model.specs.Trees.{Tree}
use Rattle.kc_rules_model.specs.declared.values.UnitValue.{UnitValue}
use Rattle.kc_rules_model.specs.SymbolValues.{value_of_symbol}
use Rattle.kc_rules_model.specs.Equality.{same_tri}
use Rattle.kc_rules_model.specs.Reports.{symbol_numbers}

-- a symbol, by its number, and its value in each of two valuations
pub record Difference : Type 0 where
  pub symbol : ℕ
  pub left : SymbolValue
  pub right : SymbolValue

-- whether two values of a symbol are the same: the same tristate and the same text byte for byte
abbrev pub is_same_value : SymbolValue → SymbolValue → Bool
is_same_value a b = same_tri a.tri b.tri && bytes_eq a.text b.text

-- the difference between two values of the symbol `s`; None if they are the same or one of them is absent
abbrev pub difference_at : ℕ → Option SymbolValue → Option SymbolValue → Option Difference
difference_at s (Some a) (Some b) = if is_same_value a b then None else Some (record { symbol = s; left = a; right = b })
difference_at s _ _ = None

-- the symbols whose values differ between two valuations, in order of first definition
abbrev pub differences : Tree → List UnitValue → List UnitValue → List Difference
differences tree v w =
    filter_map (λ s. difference_at s (value_of_symbol tree v s) (value_of_symbol tree w s)) (symbol_numbers tree)

-- Which defaults and ranges count, as the code has them.
use Rattle.std.specs.Prelude.{ℕ, Bool, not, List}
use Rattle.kc_expr.specs.between.Arena.{Exprs, node_expr}
use Rattle.kc_tree_model.specs.Trees.{Tree}
use Rattle.kc_tree.specs.declared.symbol.Default.{Default}
use Rattle.kc_tree.specs.declared.symbol.Range.{Range}
use Rattle.kc_rules_model.specs.declared.values.UnitValue.{UnitValue}
use Rattle.kc_value.specs.Tri.{is_n}
use Rattle.kc_rules_model.specs.SymbolValues.{condition}

-- whether a condition isn't `n`
abbrev pub is_active : Tree → List UnitValue → Exprs → ℕ → Bool
is_active tree values exprs c = not (is_n (condition tree values (node_expr exprs c)))

-- whether the condition of a default, or of a range, isn't `n`
abbrev pub is_active_default : Tree → List UnitValue → Exprs → Default → Bool
is_active_default tree values exprs d = is_active tree values exprs d.condition

abbrev pub is_active_range : Tree → List UnitValue → Exprs → Range → Bool
is_active_range tree values exprs r = is_active tree values exprs r.condition

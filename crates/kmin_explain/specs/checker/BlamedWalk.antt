-- The symbols that keep a condition too low, in the order in which the code finds them.
use Rattle.std.specs.Prelude.{ℕ, Bool, not, List, [], ◌++◌, filter_map, if◌then◌else◌}
use Rattle.kc_value.specs.declared.tri.Tri.{Tri}
use Rattle.kc_value.specs.Tri.{tri_not}
use Rattle.kc_expr.specs.Expr.{Expr, Operand, alone, related, negated, both, either, shown, Environment, value}
use Rattle.kc_expr.specs.ExpressionNames.{operand_names}
use Rattle.kc_tree_model.specs.Trees.{Tree}
use Rattle.kc_tree_model.specs.TreeLookup.{symbol_named}
use Rattle.kc_reasons_model.specs.Blame.{is_off}
use Rattle.kmin_explain.specs.checker.Bounds.{is_never_off, shown_limit}

-- the symbol that an operand names, if it names one
abbrev pub operand_symbols : Tree → Operand → List ℕ
operand_symbols tree a = filter_map (symbol_named tree) (operand_names a)

-- the symbols whose values keep an expression above a bound, or else below it, from right to left
abbrev pub blamed_in_reverse : Tree → Environment → (above : Bool) → Tri → Expr → List ℕ
blamed_in_reverse tree names above bound (alone a) = if is_off above bound (value names (alone a)) then operand_symbols tree a else []
blamed_in_reverse tree names above bound (related op a b) =
    if is_off above bound (value names (related op a b)) then operand_symbols tree b ++ operand_symbols tree a else []
blamed_in_reverse tree names above bound (negated e) = blamed_in_reverse tree names (not above) (tri_not bound) e
blamed_in_reverse tree names above bound (both a b) =
    if is_off above bound (value names (both a b)) then blamed_in_reverse tree names above bound b ++ blamed_in_reverse tree names above bound a else []
blamed_in_reverse tree names above bound (either a b) =
    if is_off above bound (value names (either a b)) then blamed_in_reverse tree names above bound b ++ blamed_in_reverse tree names above bound a else []
blamed_in_reverse tree names above bound (shown e) =
    if is_never_off above bound then [] else blamed_in_reverse tree names above (shown_limit above) e

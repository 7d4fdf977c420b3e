-- The names in an expression, in the order in which the code finds them.
use Rattle.std.specs.Prelude.{ℕ, List, ◌++◌}
use Rattle.kc_expr.specs.Expr.{Expr, alone, related, negated, both, either, shown}
use Rattle.kc_expr.specs.ExpressionNames.{operand_names}

-- the names in an expression, those of the right part of an `&&` or `||` before those of the left part
abbrev pub names_in_reverse : Expr → List (List ℕ)
names_in_reverse (alone a) = operand_names a
names_in_reverse (related op a b) = operand_names a ++ operand_names b
names_in_reverse (negated e) = names_in_reverse e
names_in_reverse (both a b) = names_in_reverse b ++ names_in_reverse a
names_in_reverse (either a b) = names_in_reverse b ++ names_in_reverse a
names_in_reverse (shown e) = names_in_reverse e

-- The parts of an expression, as callers see them.
use Rattle.std.specs.Prelude.{ℕ, ◌<◌}
use Rattle.kc_expr.specs.declared.expr_parts.ExprParts.{ExprParts}
use Rattle.kc_expr.specs.declared.expr_parts.ExprParts.TheVariants.{Alone, Related, Negated, Both, Either, Shown}
use Rattle.kc_expr.specs.Expr.{Expr, alone, related, negated, both, either, shown}
use Rattle.kc_expr.specs.between.Arena.{Exprs, node_expr}
use Rattle.kc_expr.specs.between.Operand.{operand_of_ref, HasKnownName}

-- the expression that is made of some parts
abbrev pub expr_of_parts : Exprs → ExprParts → Expr
expr_of_parts exprs (Alone a) = alone (operand_of_ref exprs.names a)
expr_of_parts exprs (Related op a b) = related op (operand_of_ref exprs.names a) (operand_of_ref exprs.names b)
expr_of_parts exprs (Negated i) = negated (node_expr exprs i)
expr_of_parts exprs (Both i j) = both (node_expr exprs i) (node_expr exprs j)
expr_of_parts exprs (Either i j) = either (node_expr exprs i) (node_expr exprs j)
expr_of_parts exprs (Shown i) = shown (node_expr exprs i)

-- the parts of the expression with a number: names that the arena holds, and expressions with smaller numbers
abbrev pub ArePartsOf : Exprs → ℕ → ExprParts → Type 0
ArePartsOf exprs id (Alone a) = HasKnownName exprs.names a
ArePartsOf exprs id (Related op a b) = HasKnownName exprs.names a × HasKnownName exprs.names b
ArePartsOf exprs id (Negated i) = i < id
ArePartsOf exprs id (Both i j) = (i < id) × (j < id)
ArePartsOf exprs id (Either i j) = (i < id) × (j < id)
ArePartsOf exprs id (Shown i) = i < id

-- The names in an expression.
use Rattle.std.specs.Prelude.{ℕ, List, [], ◌∷◌, ◌++◌}
use Rattle.kc_expr.specs.Expr.{Operand, Expr, constant, named, quoted, alone, related, negated, both, either, shown}

-- the name that an operand is, as a list of at most one
abbrev pub operand_names : Operand → List (List ℕ)
operand_names (constant t) = []
operand_names (named name) = name ∷ []
operand_names (quoted text) = []

-- the names in an expression, from left to right
abbrev pub names_in : Expr → List (List ℕ)
names_in (alone a) = operand_names a
names_in (related op a b) = operand_names a ++ operand_names b
names_in (negated e) = names_in e
names_in (both a b) = names_in a ++ names_in b
names_in (either a b) = names_in a ++ names_in b
names_in (shown e) = names_in e

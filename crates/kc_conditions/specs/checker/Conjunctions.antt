-- Conjunctions by the numbers of their expressions.
use Rattle.std.specs.Prelude.{◌≡◌, ℕ, ◌<◌, List, [], length, Option, Some, None, option_map, option_to_list}
use Rattle.kc_expr.specs.between.Arena.{Exprs, Represents, node_expr}
use Rattle.kc_expr.specs.Expr.{Expr}
use Rattle.kc_tree_model.specs.Conditions.{conjunction_of}

-- an optional expression, given by its number, as a list of at most one conjunct
abbrev pub conjunct : Exprs → Option ℕ → List Expr
conjunct exprs o = option_to_list (option_map (node_expr exprs) o)

-- an optional expression is the conjunction of a list: `None` that of the empty list, a number that of a list that isn't empty
abbrev pub Conjoins : Exprs → Option ℕ → List Expr → Type 0
Conjoins exprs None es = es ≡ []
Conjoins exprs (Some i) es = (0 < length es) × Represents exprs i (conjunction_of es)

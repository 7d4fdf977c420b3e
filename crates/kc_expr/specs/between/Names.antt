-- The names of an arena as they grow.
use Rattle.std.specs.Prelude.{ℕ, List, [], ◌∷◌, ◌++◌, Option, Some, None, option_and_then, is_some, if◌then◌else◌}
use Rattle.kc_expr.specs.Expr.{Operand, Expr, constant, named, quoted}
use Rattle.kc_expr.specs.Lookup.{index_of_name}
use Rattle.kc_expr.specs.between.Operand.{operand_alone}

-- a list of names with a name appended, unless the list has it already
abbrev pub with_name : List ℕ → List (List ℕ) → List (List ℕ)
with_name name names = if is_some (index_of_name name names) then names else names ++ name ∷ []

-- a list of names with the new ones of other names appended, in order, each once
abbrev pub with_names : List (List ℕ) → List (List ℕ) → List (List ℕ)
with_names [] names = names
with_names (x ∷ xs) names = with_names xs (with_name x names)

-- the name that an operand is, if it is one
abbrev pub name_of_operand : Operand → Option (List ℕ)
name_of_operand (constant t) = None
name_of_operand (named name) = Some name
name_of_operand (quoted text) = None

-- the name that an expression is, if it is just a name
abbrev pub name_alone : Expr → Option (List ℕ)
name_alone e = option_and_then name_of_operand (operand_alone e)

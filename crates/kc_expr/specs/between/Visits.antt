-- The names found by walks over expressions.
use Rattle.std.specs.Prelude.{◌≡◌, ℕ, Bool, true, false, List, [], length, map, slice_index_or}
use Rattle.std.specs.List.{list_any}
use Rattle.kc_expr.specs.between.Arena.{Exprs, node_expr}
use Rattle.kc_expr.specs.Expr.{Expr}
use Rattle.kc_expr.specs.ExpressionNames.{names_in}

-- whether one of the names in an expression passes a test
abbrev pub mentions : (List ℕ → Bool) → Expr → Bool
mentions p e = list_any p (names_in e)

-- whether one of the names with given numbers passes a test
abbrev pub passes_some_name : Exprs → (List ℕ → Bool) → List ℕ → Bool
passes_some_name exprs p ids = list_any p (map (λ i. slice_index_or exprs.names i []) ids)

-- whether a node was visited, by a list with a flag for each node
abbrev pub is_visited : List Bool → ℕ → Bool
is_visited walked node = slice_index_or walked node false

-- Each name in the expression of a visited node is among the names with given numbers. A list has a flag for each node: whether
-- the node was visited. The names are compared by tests: if a name in such an expression passes a test, so does one of the names
-- with the numbers.
pub record HasFound (exprs : Exprs) (walked : List Bool) (ids : List ℕ) : Type 0 where
  pub room : length walked ≡ length exprs.nodes
  pub found : (node : ℕ) (p : List ℕ → Bool) → is_visited walked node ≡ true → mentions p (node_expr exprs node) ≡ true → passes_some_name exprs p ids ≡ true

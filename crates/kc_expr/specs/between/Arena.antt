-- The arena as contracts see it.
use Rattle.std.specs.Prelude.{◌≡◌, ℕ, ◌<◌, List, length, take, slice_index_or}
use Rattle.kc_value.specs.declared.tri.Tri.TheVariants.{N}
use Rattle.kc_expr.specs.Expr.{Expr, alone, constant}

-- what contracts see of an arena: its names in order of first occurrence, and the expression that each of its nodes represents
pub record Exprs : Type 0 where
  pub names : List (List ℕ)
  pub nodes : List Expr

-- the expression that the node with a number represents
abbrev pub node_expr : Exprs → ℕ → Expr
node_expr a id = slice_index_or a.nodes id (alone (constant N))

-- the node of the arena with a number represents an expression
pub record Represents (a : Exprs) (id : ℕ) (e : Expr) : Type 0 where
  pub within : id < length a.nodes
  pub is : node_expr a id ≡ e

-- an arena has kept its names and nodes, and others may have been appended
pub record Grows (old new : Exprs) : Type 0 where
  pub names : take (length old.names) new.names ≡ old.names
  pub nodes : take (length old.nodes) new.nodes ≡ old.nodes

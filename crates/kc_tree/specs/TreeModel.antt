-- A tree as contracts see it.
use Rattle.kc_expr.specs.between.Arena.{Exprs}
use Rattle.kc_tree_model.specs.Trees.{Tree}

-- a tree's value in contracts: the names and expressions of its arena, and its symbols, choices, entries and units
pub record TreeModel : Type 0 where
  pub exprs : Exprs
  pub tree : Tree

-- The view of a tree.
use Rattle.kc_tree.specs.TreeModel.{TreeModel}
use Rattle.kc_tree.specs.between.StoredView.{tree_from_rows}
use Rattle.kc_tree.specs.declared.tree.Tree.TheInside.{Inside}

-- a tree's value in contracts: its arena, and the symbols, choices, entries and units that its lists store
abbrev pub tree_model : Inside → TreeModel
tree_model t = record { exprs = t.arena; tree = tree_from_rows t }

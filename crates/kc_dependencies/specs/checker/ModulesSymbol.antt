-- The symbol `MODULES`.
use Rattle.std.specs.Prelude.{ℕ, Option}
use Rattle.kc_expr.specs.Expr.{modules}
use Rattle.kc_tree_model.specs.Trees.{Tree}
use Rattle.kc_tree_model.specs.TreeLookup.{symbol_named}

-- the number of the symbol `MODULES` in a tree, if the tree has that symbol
abbrev pub modules_symbol : Tree → Option ℕ
modules_symbol tree = symbol_named tree modules

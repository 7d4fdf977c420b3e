-- Texts that are accepted as a tree.
use Rattle.std.specs.Prelude.{ℕ, List, length}
use Rattle.kc_tree_model.specs.TreeFiles.{Files}
use Rattle.kc_tree_model.specs.Trees.{Tree}
use Rattle.kc_tree_model.specs.TreesOfFiles.{IsTreeOfFiles}
use Rattle.kc_solver.specs.Dependencies.{HasNoCycle}
use Rattle.kc_rules_model.specs.Dependencies.{dependencies}

-- Texts are accepted as this tree: they are read as it without a fault, and no symbol or choice depends on itself ("Kconfig
-- recursive dependency limitations").
pub record AreAccepted (texts : Files) (first : List ℕ) (tree : Tree) : Type 0 where
  pub read : IsTreeOfFiles texts first tree
  pub acyclic : HasNoCycle (length tree.units) (dependencies tree)

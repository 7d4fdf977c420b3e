-- The trees whose values are computed ("Kconfig recursive dependency limitations").
use Rattle.std.specs.Prelude.{length}
use Rattle.kc_solver.specs.Dependencies.{HasNoCycle}
use Rattle.kc_tree_model.specs.Trees.{Tree}
use Rattle.kc_tree_model.specs.TreeLookup.{IsConsistent}
use Rattle.kc_rules_model.specs.Dependencies.{dependencies}

-- a tree is consistent, and no unit depends on itself, directly or through other units ("recursive dependency limitations")
pub record IsSettledTree (tree : Tree) : Type 0 where
  pub consistent : IsConsistent tree
  pub acyclic : HasNoCycle (length tree.units) (dependencies tree)

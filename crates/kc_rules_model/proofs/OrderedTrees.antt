-- The units of a settled tree have an order.
use Rattle.kc_rules_model.proofs.Common.{ℕ, List, length, Tree, IsConsistent}
use Rattle.kc_solver.specs.Dependencies.{IsOrder}
use Rattle.kc_solver.proofs.AcyclicOrders.{order_of_acyclic}
use Rattle.kc_rules_model.specs.Dependencies.{dependencies}
use Rattle.kc_rules_model.specs.SettledTrees.{IsSettledTree}
use Rattle.kc_rules_model.specs.checker.GraphLaw.{rules_graph}

-- a tree is consistent, and its units have an order in which each comes after its dependencies
pub record IsOrderedTree (tree : Tree) : Type 0 where
  pub consistent : IsConsistent tree
  pub order : List ℕ
  pub ordered : IsOrder (length tree.units) (dependencies tree) order

pub ordered_tree : (tree : Tree) → IsSettledTree tree → IsOrderedTree tree
ordered_tree tree settled =
    let found = order_of_acyclic (length tree.units) (dependencies tree) (rules_graph tree) settled.acyclic in
    record { consistent = settled.consistent; order = found.0; ordered = found.1 }

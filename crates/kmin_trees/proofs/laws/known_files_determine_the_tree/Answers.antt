use Rattle.kmin_trees.proofs.KnownTrees.{known_tree, one_tree}
use Rattle.kmin_trees.proofs.laws.known_files_determine_the_tree.Goals as goal

pub returns-clause-tree : goal.returns-clause-tree
returns-clause-tree c = known_tree

pub returns-clause-one : goal.returns-clause-one
returns-clause-one c = one_tree

use Rattle.kc_tree_model.proofs.StrictTrees.{strict_tree_in_linux, strict_tree_same}
use Rattle.kc_tree_model.proofs.laws.linux_reads_strict_trees.Goals as goal

pub returns-clause-none : goal.returns-clause-none
returns-clause-none c = λ version list root h. (strict_tree_in_linux version list root h).0

pub returns-clause-tree : goal.returns-clause-tree
returns-clause-tree c = λ version list root other h. strict_tree_same version list root other h

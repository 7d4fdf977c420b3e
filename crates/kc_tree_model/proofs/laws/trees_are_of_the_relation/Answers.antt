use Rattle.kc_tree_model.proofs.ReadingLaws.TreesOfRelation.{tree_related, reported_related, wanted_related}
use Rattle.kc_tree_model.proofs.laws.trees_are_of_the_relation.Goals as goal

pub returns-clause-tree : goal.returns-clause-tree
returns-clause-tree c = tree_related

pub returns-clause-fault : goal.returns-clause-fault
returns-clause-fault c = reported_related

pub returns-clause-wanted : goal.returns-clause-wanted
returns-clause-wanted c = wanted_related

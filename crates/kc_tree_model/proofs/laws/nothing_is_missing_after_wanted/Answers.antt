use Rattle.kc_tree_model.proofs.AbsentFiles.{nothing_missing, first_fault}
use Rattle.kc_tree_model.proofs.laws.nothing_is_missing_after_wanted.Goals as goal

pub returns-clause-none : goal.returns-clause-none
returns-clause-none c = nothing_missing

pub returns-clause-fault : goal.returns-clause-fault
returns-clause-fault c = first_fault

use Rattle.kc_tree_model.proofs.ReadingLaws.ReadingSoundness.{cut_related, whole_or_cut}
use Rattle.kc_tree_model.proofs.ReadingLaws.TreesOfRelation.{some_outcome, one_outcome}
use Rattle.kc_tree_model.proofs.laws.reading_ends_at_the_first_fault.Goals as goal

pub returns-clause-fault : goal.returns-clause-fault
returns-clause-fault c = cut_related

pub returns-clause-some : goal.returns-clause-some
returns-clause-some c = some_outcome

pub returns-clause-one : goal.returns-clause-one
returns-clause-one c = one_outcome

pub returns-clause-not_both : goal.returns-clause-not_both
returns-clause-not_both c = whole_or_cut

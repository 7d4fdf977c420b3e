use Rattle.kc_tree_model.proofs.ReadingLaws.ReadingSoundness.{whole_related, one_whole}
use Rattle.kc_tree_model.proofs.laws.reading_is_the_relation.Goals as goal

pub returns-clause-read : goal.returns-clause-read
returns-clause-read c = whole_related

pub returns-clause-one : goal.returns-clause-one
returns-clause-one c = one_whole

use Rattle.kc_value.proofs.QuotedLaws.{spelled, one_meaning}
use Rattle.kc_value.proofs.quoted_texts.quoted_texts_read_back.Goals as goal

pub returns-clause-spelled : goal.returns-clause-spelled
returns-clause-spelled c = spelled

pub returns-clause-one : goal.returns-clause-one
returns-clause-one c = one_meaning

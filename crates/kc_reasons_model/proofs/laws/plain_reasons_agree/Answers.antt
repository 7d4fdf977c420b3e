use Rattle.kc_reasons_model.proofs.laws.plain_reasons_agree.Goals as goal
use Rattle.kc_reasons_model.proofs.PlainReasonLaws.{plain_agree as law}

pub returns : goal.returns
returns c = law

use Rattle.kc_reasons_model.proofs.laws.numbers_are_decisive.Goals as goal
use Rattle.kc_reasons_model.proofs.DecisiveLaws.{numbers_decisive as law}

pub returns : goal.returns
returns c = law

use Rattle.kc_located_reasons.proofs.laws.unmet_are_located.Goals as goal
use Rattle.kc_located_reasons.proofs.LocatedLaws.{unmet as law}

pub returns : goal.returns
returns c = law

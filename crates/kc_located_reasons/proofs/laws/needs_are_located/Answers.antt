use Rattle.kc_located_reasons.proofs.laws.needs_are_located.Goals as goal
use Rattle.kc_located_reasons.proofs.LocatedLaws.{needs as law}

pub returns : goal.returns
returns c = law

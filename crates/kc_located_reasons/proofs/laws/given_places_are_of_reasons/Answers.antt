use Rattle.kc_located_reasons.proofs.laws.given_places_are_of_reasons.Goals as goal
use Rattle.kc_located_reasons.proofs.LocatedLaws.{given as law}

pub returns : goal.returns
returns c = law

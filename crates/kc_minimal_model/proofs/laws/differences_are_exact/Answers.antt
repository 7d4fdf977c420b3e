use Rattle.kc_minimal_model.proofs.DifferenceLaws.{differences_are_exact as law}
use Rattle.kc_minimal_model.proofs.laws.differences_are_exact.Goals as goal

pub returns : goal.returns
returns c = law

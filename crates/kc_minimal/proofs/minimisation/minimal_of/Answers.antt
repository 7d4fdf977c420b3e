use Rattle.kc_minimal.proofs.Common.{arith, common_steps}
use Rattle.kc_minimal.proofs.minimisation.minimal_of.Goals as goal

pub returns : goal.returns
returns c = grind (arith, common_steps)

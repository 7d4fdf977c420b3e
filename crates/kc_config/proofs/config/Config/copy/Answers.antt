use Rattle.kc_config.proofs.Common.{arith, common_steps}
use Rattle.kc_config.proofs.config.Config.copy.Goals as goal

pub invariant_of-result : goal.invariant_of-result
invariant_of-result c = grind (arith, common_steps)

pub returns : goal.returns
returns c = grind (arith, common_steps)

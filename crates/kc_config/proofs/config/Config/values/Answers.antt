use Rattle.kc_config.proofs.Common.{arith, common_steps}
use Rattle.kc_config.proofs.config.Config.values.Goals as goal

pub returns-clause-values : goal.returns-clause-values
returns-clause-values c = grind (arith, common_steps)

pub returns-clause-solved : goal.returns-clause-solved
returns-clause-solved c = grind (arith, common_steps)

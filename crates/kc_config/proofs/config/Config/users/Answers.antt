use Rattle.kc_config.proofs.Common.{arith, common_steps}
use Rattle.kc_config.proofs.config.Config.users.Goals as goal

pub returns-clause-users : goal.returns-clause-users
returns-clause-users c = grind (arith, common_steps)

pub returns-clause-solved : goal.returns-clause-solved
returns-clause-solved c = grind (arith, common_steps)

use Rattle.kc_minimal.proofs.Common.{arith, common_steps}
use Rattle.kc_minimal.proofs.symbol_line.push_set.Goals as goal

pub returns : goal.returns
returns c = grind (arith, common_steps)

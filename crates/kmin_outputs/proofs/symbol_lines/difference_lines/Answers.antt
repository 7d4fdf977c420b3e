use Rattle.kmin_outputs.proofs.Common.{arith, common_steps}
use Rattle.kmin_outputs.proofs.symbol_lines.difference_lines.Goals as goal

pub returns : goal.returns
returns c = grind (arith, common_steps)

pub loop-difference-preserved : goal.loop-difference-preserved
loop-difference-preserved c = grind (arith, common_steps)

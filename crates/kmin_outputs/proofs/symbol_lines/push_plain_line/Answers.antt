use Rattle.kmin_outputs.proofs.Common.{arith, common_steps}
use Rattle.kmin_outputs.proofs.symbol_lines.push_plain_line.Goals as goal

pub returns : goal.returns
returns c = grind (arith, common_steps)

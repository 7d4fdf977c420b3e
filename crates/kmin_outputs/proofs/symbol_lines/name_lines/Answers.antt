use Rattle.std.proofs.Common.{arith}
use Rattle.std.proofs.lemmas.Grind.{common_steps, elements}
use Rattle.kmin_outputs.proofs.symbol_lines.name_lines.Goals as goal

pub returns : goal.returns
returns c = grind (arith, elements)

pub loop-s-preserved : goal.loop-s-preserved
loop-s-preserved c = grind (arith, common_steps)

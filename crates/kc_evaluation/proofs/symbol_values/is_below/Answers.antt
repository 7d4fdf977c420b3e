use Rattle.kc_evaluation.proofs.Common.{arith, common_steps, elements}
use Rattle.kc_evaluation.proofs.symbol_values.is_below.Goals as goal

pub returns-in-M-M : goal.returns-in-M-M
returns-in-M-M c = grind (arith, elements)

pub returns-in-N-N : goal.returns-in-N-N
returns-in-N-N c = grind (arith, common_steps)

pub returns-in-Y-Y : goal.returns-in-Y-Y
returns-in-Y-Y c = grind (arith, elements)

pub returns-in-Y-M : goal.returns-in-Y-M
returns-in-Y-M c = grind (arith, elements)

pub returns-in-Y-N : goal.returns-in-Y-N
returns-in-Y-N c = grind (arith, common_steps)

pub returns-in-N-M : goal.returns-in-N-M
returns-in-N-M c = grind (arith, elements)

pub returns-in-M-N : goal.returns-in-M-N
returns-in-M-N c = grind (arith, elements)

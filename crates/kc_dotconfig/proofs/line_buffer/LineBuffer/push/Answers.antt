use Rattle.kc_dotconfig.proofs.Common.{arith, common_steps, elements}
use Rattle.kc_dotconfig.proofs.line_buffer.LineBuffer.push.Goals as goal

pub returns-clause-ok : goal.returns-clause-ok
returns-clause-ok c = grind (arith, elements)

pub returns-clause-err : goal.returns-clause-err
returns-clause-err c = grind (arith, common_steps)

pub returns-clause-long : goal.returns-clause-long
returns-clause-long c = grind (arith, elements)

pub returns-clause-short : goal.returns-clause-short
returns-clause-short c = grind (arith, elements)

pub returns-then-piece-len-clause-long : goal.returns-then-piece-len-clause-long
returns-then-piece-len-clause-long c = grind (arith, common_steps)

pub invariant_of-self : goal.invariant_of-self
invariant_of-self c = grind (arith, common_steps)

pub returns-clause-kinds : goal.returns-clause-kinds
returns-clause-kinds c = grind (arith, common_steps)

pub returns-then-piece-len-clause-kinds : goal.returns-then-piece-len-clause-kinds
returns-then-piece-len-clause-kinds c = grind (arith, common_steps)

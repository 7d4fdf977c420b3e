use Rattle.kc_evaluation.proofs.Common.{arith, common_steps, elements}
use Rattle.kc_evaluation.proofs.tristate_rules.raised.Goals as goal

pub reverse_value-requires-clause-condition : goal.reverse_value-requires-clause-condition
reverse_value-requires-clause-condition c = grind (arith, elements)

pub reverse_value-requires-clause-by : goal.reverse_value-requires-clause-by
reverse_value-requires-clause-by c = grind (arith, elements)

pub returns : goal.returns
returns c = grind (arith, common_steps)

pub loop-force-preserved : goal.loop-force-preserved
loop-force-preserved c = grind (arith, common_steps)

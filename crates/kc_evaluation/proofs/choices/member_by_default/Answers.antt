use Rattle.kc_evaluation.proofs.Common.{arith, common_steps, elements}
use Rattle.kc_evaluation.proofs.choices.member_by_default.Goals as goal

pub is_default_open-requires-clause-condition : goal.is_default_open-requires-clause-condition
is_default_open-requires-clause-condition c = grind (arith, elements)

pub is_default_open-requires-clause-member : goal.is_default_open-requires-clause-member
is_default_open-requires-clause-member c = grind (arith, common_steps)

pub returns-then-is_default_open : goal.returns-then-is_default_open
returns-then-is_default_open c = grind (arith, common_steps)

pub returns : goal.returns
returns c = grind (arith, common_steps)

pub loop-default-preserved : goal.loop-default-preserved
loop-default-preserved c = grind (arith, common_steps)

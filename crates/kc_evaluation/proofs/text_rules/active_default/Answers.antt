use Rattle.kc_evaluation.proofs.Common.{arith, common_steps, elements}
use Rattle.kc_evaluation.proofs.text_rules.active_default.Goals as goal

pub condition-requires : goal.condition-requires
condition-requires c = grind (arith, common_steps)

pub returns-then-not-is_n-clause-there : goal.returns-then-not-is_n-clause-there
returns-then-not-is_n-clause-there c = grind (arith, elements)

pub loop-default-preserved : goal.loop-default-preserved
loop-default-preserved c = grind (arith, common_steps)

pub returns-clause-value : goal.returns-clause-value
returns-clause-value c = grind (arith, common_steps)

pub returns-then-not-is_n-clause-value : goal.returns-then-not-is_n-clause-value
returns-then-not-is_n-clause-value c = grind (arith, common_steps)

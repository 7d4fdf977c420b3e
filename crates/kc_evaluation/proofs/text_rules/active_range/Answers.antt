use Rattle.kc_evaluation.proofs.Common.{arith, common_steps}
use Rattle.kc_evaluation.proofs.text_rules.active_range.Goals as goal

pub condition-requires : goal.condition-requires
condition-requires c = grind (arith, common_steps)

pub returns-then-not-is_n-clause-there : goal.returns-then-not-is_n-clause-there
returns-then-not-is_n-clause-there c = grind (arith, common_steps)

pub returns-then-not-is_n-clause-range : goal.returns-then-not-is_n-clause-range
returns-then-not-is_n-clause-range c = grind (arith, common_steps)

pub loop-range-preserved : goal.loop-range-preserved
loop-range-preserved c = grind (arith, common_steps)

pub returns-clause-range : goal.returns-clause-range
returns-clause-range c = grind (arith, common_steps)

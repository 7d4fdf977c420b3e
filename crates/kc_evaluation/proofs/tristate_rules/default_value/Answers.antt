use Rattle.kc_evaluation.proofs.Common.{arith, common_steps, elements}
use Rattle.kc_evaluation.proofs.tristate_rules.default_value.Goals as goal

pub condition-condition-requires : goal.condition-condition-requires
condition-condition-requires c = record { there = grind (arith, elements) }

pub condition-requires : goal.condition-requires
condition-requires c = record { there = grind (arith, elements) }

pub returns : goal.returns
returns c = grind (arith, common_steps)

pub returns-then-not-is_n : goal.returns-then-not-is_n
returns-then-not-is_n c = grind (arith, common_steps)

pub loop-default-preserved : goal.loop-default-preserved
loop-default-preserved c = grind (arith, common_steps)

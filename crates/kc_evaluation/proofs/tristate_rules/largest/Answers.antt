use Rattle.kc_evaluation.proofs.Common.{arith, common_steps, elements}
use Rattle.kc_evaluation.proofs.tristate_rules.largest.Goals as goal

pub condition-requires : goal.condition-requires
condition-requires c = record { there = grind (arith, elements) }

pub returns : goal.returns
returns c = grind (arith, common_steps)

pub loop-id-preserved : goal.loop-id-preserved
loop-id-preserved c = grind (arith, common_steps)

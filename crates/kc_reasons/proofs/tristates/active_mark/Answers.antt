use Rattle.kc_reasons.proofs.Common.{arith, common_steps}
use Rattle.kc_reasons.proofs.tristates.active_mark.Goals as goal

pub condition-requires : goal.condition-requires
condition-requires c = grind (arith, common_steps)

pub loop-default-preserved : goal.loop-default-preserved
loop-default-preserved c = grind (arith, common_steps)

pub returns : goal.returns
returns c = grind (arith, common_steps)

pub returns-then-not-is_n : goal.returns-then-not-is_n
returns-then-not-is_n c = grind (arith, common_steps)

use Rattle.kc_evaluation.proofs.Common.{arith, common_steps}
use Rattle.kc_evaluation.proofs.choices.first_member.Goals as goal

pub returns : goal.returns
returns c = grind (arith, common_steps)

pub loop-s-preserved : goal.loop-s-preserved
loop-s-preserved c = grind (arith, common_steps)

pub returns-then-is_member_visible : goal.returns-then-is_member_visible
returns-then-is_member_visible c = grind (arith, common_steps)

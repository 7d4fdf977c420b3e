use Rattle.kc_checks.proofs.Common.{arith, common_steps}
use Rattle.kc_checks.proofs.marks.mark_members.Goals as goal

pub returns : goal.returns
returns c = grind (arith, common_steps)

pub loop-member-preserved : goal.loop-member-preserved
loop-member-preserved c = grind (arith, common_steps)

use Rattle.kmin_details.proofs.CycleTexts.{has_more}
use Rattle.kmin_details.proofs.cycle_steps.cycle_text.Goals as goal

pub loop-step-preserved : goal.loop-step-preserved
loop-step-preserved c = has_more _ _ _ _ _ _ c.loop-step-test.true c.loop-step.invariant c.in_ok-push_step.ensures

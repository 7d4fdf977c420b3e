use Rattle.kmin_faults.proofs.Common.{length, map, string_bytes, step_at}
use Rattle.kmin_faults.proofs.Circles.{begun, step_more, step_lacks, ended}
use Rattle.kmin_faults.proofs.steps.cycle_steps.Goals as goal

pub loop-at-init : goal.loop-at-init
loop-at-init c =
    begun (step_at c.args.tree.now.tree c.args.units.now (map string_bytes c.args.names.now)) c.new-steps.result.items (length c.args.units.now)
    c.new-steps.ensures.items

pub loop-at-preserved : goal.loop-at-preserved
loop-at-preserved c =
    step_more (step_at c.args.tree.now.tree c.args.units.now (map string_bytes c.args.names.now)) c.loop-at.steps.items c.push.new.self.items c.in-Some.step
    c.loop-at.at (length c.args.units.now) c.in_ok-step.field-0 _ c.loop-at-test.true c.in_ok-step.ensures.value c.in-Some.is
    c.in_ok-push-in-Some.ensures.items c.loop-at.invariant

pub returns-in-None : goal.returns-in-None
returns-in-None c =
    step_lacks (step_at c.args.tree.now.tree c.args.units.now (map string_bytes c.args.names.now)) c.loop-at.steps.items c.loop-at.at (length c.args.units.now)
    c.in_ok-step.field-0 _ c.loop-at-test.true c.in_ok-step.ensures.value c.in-None.is c.loop-at.invariant

pub returns : goal.returns
returns c =
    ended (step_at c.args.tree.now.tree c.args.units.now (map string_bytes c.args.names.now)) c.loop-at.steps.items c.loop-at.at (length c.args.units.now) _
    c.loop-at-test.false c.loop-at.invariant

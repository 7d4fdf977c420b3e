use Rattle.kc_macros.proofs.Common.{arith, frame_place, frame_bindings, frame_names}
use Rattle.kc_macros.proofs.ProgramLemmas.{steps_stopped}
use Rattle.kc_macros.proofs.ExpansionLemmas.{fails_so, too_deep, whole_unpaid, whole_leads}
use Rattle.kc_macros.proofs.steps.inner_frame.Goals as goal

pub returns-then-frame-eq0-clause-steps : goal.returns-then-frame-eq0-clause-steps
returns-then-frame-eq0-clause-steps c =
    let f = c.args.frame.now in
    fails_so c.args.run.now _ _ c.fault.result (too_deep (frame_place f) f.more (frame_bindings f) (frame_names f) f.args.now c.args.text.now
    c.if-frame-eq0.true) c.fault.ensures

pub returns-in_err-spend-clause-steps : goal.returns-in_err-spend-clause-steps
returns-in_err-spend-clause-steps c =
    let f = c.args.frame.now in
    steps_stopped _ _ _ _ c.in_err-spend.field-0.0 _ c.from_residual.ensures.1
    (whole_unpaid (frame_place f) f.more (frame_bindings f) (frame_names f) f.args.now c.args.text.now
    (omega arith) c.args.run.now c.spend.new.run c.in_err-spend.field-0.0 c.in_err-spend.ensures)

pub returns-clause-steps : goal.returns-clause-steps
returns-clause-steps c =
    let f = c.args.frame.now in
    whole_leads (frame_place f) f.more (frame_bindings f) (frame_names f) f.args.now c.args.text.now
    (omega arith) c.args.run.now c.spend.new.run c.in_ok-spend.ensures

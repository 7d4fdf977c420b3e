use Rattle.std.proofs.lemmas.Iterator.{YieldsList-from_chars}
use Rattle.std.proofs.lemmas.Iterator.Consumers.{YieldsList-turn, YieldsList-end}
use Rattle.std.proofs.lemmas.List.{length_push}
use Rattle.kmin_messages.proofs.FittingSteps.{shown_more, shown_cut, shown_end, fits, fits_not}
use Rattle.kmin_messages.proofs.shown_text.shown.Goals as goal
use Rattle.kmin_messages.proofs.shown_text.shown.Goals.{in-None, in-Some+in_ok-push_char+then-not-branch}

pub loop-c-preserved : goal.loop-c-preserved
loop-c-preserved c =
    let t = YieldsList-turn (YieldsList-from_chars c.args.text.now c.utf8.text cc) c.loop-c.yielded _ c.loop-c.yielded_by _ _ c.in-Some.c c.in-Some.is
    c.next.ensures.steps in
    shown_more _ _ _ _ _ _ c.in-Some.c c.loop-c.invariant t.0 t.1 (length_push c.loop-c.yielded c.in-Some.c)
    (fits _ _ _ _ c.if-not-branch.false c.in_ok-push_char.ensures)

pub returns-clause-value : goal.returns-clause-value
returns-clause-value c =
    elim c.match-next.branch [
      | in-None w ↦
          let t = YieldsList-end (YieldsList-from_chars c.args.text.now c.utf8.text cc) c.loop-c.yielded _ c.loop-c.yielded_by _ _ w.in-None.is
          c.next.ensures.steps in
          rw w.out-is (shown_end _ _ _ _ c.loop-c.invariant t.1)
      | in-Some+in_ok-push_char+then-not-branch w ↦
          let t = YieldsList-turn (YieldsList-from_chars c.args.text.now c.utf8.text cc) c.loop-c.yielded _ c.loop-c.yielded_by _ _ w.in-Some.c w.in-Some.is
          c.next.ensures.steps in
          rw w.out-is (shown_cut _ _ _ _ _ 0 w.in-Some.c c.loop-c.invariant t.0 t.1 (fits_not _ _ _ _ w.if-not-branch.true w.in_ok-push_char.ensures))
    ]

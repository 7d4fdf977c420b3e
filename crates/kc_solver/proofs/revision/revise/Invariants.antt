use Rattle.kc_solver.proofs.Common.{◌≡◌, ◌+◌, ◌-◌, ◌^◌, min, reverse, Appends, Undoes, logged_units, is_pending, Revising, FitsValues}
use Rattle.kc_solver.proofs.revision.revise.Given as goal

abbrev pub invariant-loop-place : goal.invariant-loop-place
invariant-loop-place g l = record {
  fits : FitsValues (g.S.Graph.size l.plan.system.now) (g.S.System.fits_value l.plan.system.now) l.values;
  undo : Undoes l.log.items l.initial.values l.values;
  steps : g.S.System.count l.meter ≡ min (g.S.System.count l.initial.meter + l.evaluated) (2 ^ 64 - 1);
  size : l.pending.size ≡ l.initial.pending.size;
  revising : Revising (g.S.Graph.size l.plan.system.now) (g.S.Graph.dependencies l.plan.system.now) (g.S.System.rule l.plan.system.now) l.plan.order.now l.users
      (is_pending l.initial.pending) l.initial.values l.values (is_pending l.pending) (logged_units l.log.items) l.evaluated;
  recorded : Appends (g.S.System.recorded l.initial.meter) (g.S.System.recorded l.meter) (reverse revising.done);
}

abbrev pub decreases-loop-place : goal.decreases-loop-place
decreases-loop-place g l = g.S.Graph.size l.plan.system.now - l.evaluated

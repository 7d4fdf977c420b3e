use Rattle.kc_solver.proofs.Common.{◌≡◌, ◌+◌, ◌-◌, ◌^◌, ◌≤◌, length, min, FitsValues}
use Rattle.kc_solver.proofs.OneSolution.{SolvedBelow}
use Rattle.kc_solver.proofs.solution.solve.Given as goal

abbrev pub invariant-loop-u : goal.invariant-loop-u
invariant-loop-u g l = record {
  within : l.u-index ≤ length l.u-items;
  fits : FitsValues (g.S.Graph.size l.system) (g.S.System.fits_value l.system) l.values.items;
  solved : SolvedBelow (g.S.System.rule l.system) l.users l.order l.values.items l.u-index;
  steps : g.S.System.count l.meter ≡ min (g.S.System.count l.initial.meter + l.u-index) (2 ^ 64 - 1);
}

use Rattle.kc_solver.proofs.Common.{◌≡◌, ◌≤◌, length, take, logged_units}
use Rattle.kc_solver.proofs.changed_units.ascending_units.Given as goal

abbrev pub invariant-loop-u : goal.invariant-loop-u
invariant-loop-u g l = record {
  within : l.u-index ≤ length l.log;
  units : l.units.items ≡ logged_units (take l.u-index l.log);
}

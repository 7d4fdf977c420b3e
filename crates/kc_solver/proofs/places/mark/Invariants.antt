use Rattle.kc_solver.proofs.Common.{◌≡◌, ◌≤◌, length, take, MarksPlaces, is_pending}
use Rattle.kc_solver.proofs.places.mark.Given as goal

abbrev pub invariant-loop-u : goal.invariant-loop-u
invariant-loop-u l = record {
  within : l.u-index ≤ length l.units;
  size : l.pending.size ≡ l.initial.pending.size;
  marks : MarksPlaces (is_pending l.initial.pending) (is_pending l.pending) (take l.u-index l.units) l.places;
}

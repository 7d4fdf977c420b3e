use Rattle.kc_solver.proofs.Common.{◌≡◌, ◌≤◌, length, drop, undone, ListsChanged, is_pending}
use Rattle.kc_solver.proofs.user_values.mark_changed.Given as goal

abbrev pub invariant-loop-i : goal.invariant-loop-i
invariant-loop-i g l = record {
  within : l.i ≤ length l.log;
  size : l.pending.size ≡ l.initial.pending.size;
  lists : ListsChanged l.places l.users (undone (drop l.i l.log) l.users) (is_pending l.pending);
}

abbrev pub decreases-loop-i : goal.decreases-loop-i
decreases-loop-i g l = l.i

use Rattle.std.proofs.Common.{◌≡◌, ◌<◌, ℕ, Some, length, slice_get, vec_len}
use Rattle.kc_solver.specs.checker.Logs.{undone}
use Rattle.kc_solver.proofs.undo_log.restore_logged.Given as goal

abbrev pub invariant-loop-u : goal.invariant-loop-u
invariant-loop-u g l = record {
  units : (k u : ℕ) (a : _) → slice_get l.log.items k ≡ Some (u, a) → u < length l.values;
  back : undone l.log.items l.values ≡ undone l.initial.log.items l.initial.values;
}

abbrev pub decreases-loop-u : goal.decreases-loop-u
decreases-loop-u g l = vec_len l.log

use Rattle.kc_solver.proofs.Common.{◌≡◌, ◌≤◌, length, take, changed_users, Undoes}
use Rattle.kc_solver.proofs.user_values.write_users.Given as goal

abbrev pub invariant-loop-u : goal.invariant-loop-u
invariant-loop-u g l = record {
  within : l.u-index ≤ length l.changes;
  changed : l.users ≡ changed_users (take l.u-index l.changes) l.initial.users;
  undo : Undoes l.log.items l.initial.users l.users;
}

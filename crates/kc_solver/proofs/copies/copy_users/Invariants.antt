use Rattle.std.proofs.Common.{◌≡◌, ◌≤◌, length, take}
use Rattle.kc_solver.proofs.copies.copy_users.Given as goal

abbrev pub invariant-loop-user : goal.invariant-loop-user
invariant-loop-user g l = record {
  within : l.user-index ≤ length l.users;
  same : l.copy.items ≡ take l.user-index l.users;
}

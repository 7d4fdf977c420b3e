use Rattle.std.proofs.Common.{◌<◌, ◌≤◌, ℕ, IfSome, length}
use Rattle.kc_solver.specs.Solutions.{user_of}
use Rattle.kmin_base_tests.specs.Sums.{IsSmall}
use Rattle.kmin_base_tests.proofs.tests.sums.fit_users.Given as goal

abbrev pub invariant-loop-user : goal.invariant-loop-user
invariant-loop-user l = record {
  within : l.user-index ≤ length l.users;
  fit : (u : ℕ) → u < l.user-index → IfSome (user_of l.users u) (IsSmall u);
}

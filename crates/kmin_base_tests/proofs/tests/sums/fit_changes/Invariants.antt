use Rattle.std.proofs.Common.{◌≡◌, ◌<◌, ◌≤◌, ℕ, Option, Some, IfSome, length, slice_get}
use Rattle.kmin_base_tests.specs.Sums.{IsSmall}
use Rattle.kmin_base_tests.proofs.tests.sums.fit_changes.Given as goal

abbrev pub invariant-loop-u : goal.invariant-loop-u
invariant-loop-u l = record {
  within : l.u-index ≤ length l.changes;
  fit : (k u : ℕ) (x : Option ℕ) → k < l.u-index → slice_get l.changes k ≡ Some (u, x) → (u < length l.system.rows.items) × IfSome x (IsSmall u);
}

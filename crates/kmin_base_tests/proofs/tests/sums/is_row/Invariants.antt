use Rattle.std.proofs.Common.{◌≡◌, ◌+◌, ◌-◌, ◌<◌, ◌≤◌, ℕ, length, slice_index}
use Rattle.kmin_base_tests.proofs.tests.sums.is_row.Given as goal

abbrev pub invariant-loop-d : goal.invariant-loop-d
invariant-loop-d l = record {
  within : l.d-index ≤ length l.row;
  ascending : (k : ℕ) → k + 1 < l.d-index → slice_index l.row k < slice_index l.row (k + 1);
  last : 0 < l.d-index → slice_index l.row (l.d-index - 1) + 1 ≡ l.least;
  units : (k : ℕ) → k < l.d-index → slice_index l.row k < l.size;
}

use Rattle.std.proofs.Common.{◌≡◌, ◌+◌, ◌≤◌, take, length, min, sum_by, slice_index}
use Rattle.kmin_base_tests.proofs.tests.sums.SumsSystem.eval.Given as goal

abbrev pub invariant-loop-d : goal.invariant-loop-d
invariant-loop-d l = record {
  within : l.d-index ≤ length l.d-items;
  sum : l.sum ≡ min 1000 (1 + sum_by (λ d. slice_index l.values d) (take l.d-index l.d-items));
}

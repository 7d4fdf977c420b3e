use Rattle.std.proofs.Common.{◌≡◌, ◌≤◌, length, take}
use Rattle.kc_solver.proofs.copies.copy_values.Given as goal

abbrev pub invariant-loop-value : goal.invariant-loop-value
invariant-loop-value g l = record {
  within : l.value-index ≤ length l.values;
  same : l.copy.items ≡ take l.value-index l.values;
}

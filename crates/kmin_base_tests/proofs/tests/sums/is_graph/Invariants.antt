use Rattle.std.proofs.Common.{◌<◌, ◌≤◌, ℕ, length}
use Rattle.kmin_base_tests.specs.Sums.{row_at, IsRow}
use Rattle.kmin_base_tests.proofs.tests.sums.is_graph.Given as goal

abbrev pub invariant-loop-row : goal.invariant-loop-row
invariant-loop-row l = record {
  within : l.row-index ≤ length l.rows;
  each : (u : ℕ) → u < l.row-index → IsRow (length l.rows) (row_at l.rows u);
}

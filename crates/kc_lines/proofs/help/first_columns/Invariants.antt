use Rattle.std.proofs.Common.{◌≡◌, ◌≤◌, ◌-◌, drop, length}
use Rattle.kc_tree_model.specs.LogicalLines.{first_indentation, physical_lines}
use Rattle.kc_lines.proofs.help.first_columns.Given as goal

abbrev pub invariant-loop-begin : goal.invariant-loop-begin
invariant-loop-begin l = record {
  left : first_indentation (physical_lines (drop l.begin l.bytes)) ≡ first_indentation (physical_lines (drop l.fn.at l.bytes));
  within : l.begin ≤ length l.bytes;
}

abbrev pub decreases-loop-begin : goal.decreases-loop-begin
decreases-loop-begin l = length l.bytes - l.begin

use Rattle.std.proofs.Common.{◌≡◌, ◌≤◌, ◌*◌, drop}
use Rattle.kc_tree_model.specs.LogicalLines.{column_from}
use Rattle.kc_lines.proofs.help.columns_of.Given as goal

abbrev pub invariant-loop-b : goal.invariant-loop-b
invariant-loop-b l = record {
  left : column_from l.column (drop l.b-index l.text) ≡ column_from 0 l.text;
  small : l.column ≤ 8 * l.b-index;
}

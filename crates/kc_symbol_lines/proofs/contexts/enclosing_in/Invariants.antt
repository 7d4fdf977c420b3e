use Rattle.kc_symbol_lines.proofs.Common.{◌≡◌, ◌≤◌, length, drop, is_linux_6_12, lists_of, inside_blocks}
use Rattle.kc_symbol_lines.proofs.contexts.enclosing_in.Given as goal

abbrev pub invariant-loop-left : goal.invariant-loop-left
invariant-loop-left l = record {
  within : l.left ≤ length l.blocks;
  now : lists_of l.enclosing ≡ inside_blocks (is_linux_6_12 l.language) l.lines.no l.lines.groups.items l.lines.lines.items (drop l.left l.blocks);
}

abbrev pub decreases-loop-left : goal.decreases-loop-left
decreases-loop-left l = l.left

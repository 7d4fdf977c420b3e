use Rattle.kc_macro_lines.proofs.Common.{◌≡◌, ◌≤◌, ◌-◌, false, length, take, has_dollar_or_wide}
use Rattle.kc_macro_lines.proofs.marked_bytes.blocks_have_mark.Given as goal

abbrev pub invariant-loop-at : goal.invariant-loop-at
invariant-loop-at l = record { none : has_dollar_or_wide (take l.at l.text) ≡ false; within : l.at ≤ length l.text }

abbrev pub decreases-loop-at : goal.decreases-loop-at
decreases-loop-at l = length l.text - l.at

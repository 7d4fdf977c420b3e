use Rattle.kmin_texts.proofs.Common.{◌≡◌, drop, pieces}
use Rattle.kmin_texts.proofs.numbered_lines.after_lines.Given as goal

abbrev pub invariant-loop-left : goal.invariant-loop-left
invariant-loop-left l = drop l.left (pieces 10 l.rest) ≡ drop l.fn.count (pieces 10 l.fn.bytes)

abbrev pub decreases-loop-left : goal.decreases-loop-left
decreases-loop-left l = l.left

use Rattle.kmin_lines.proofs.Common.{◌≡◌, length, have_same_lines}
use Rattle.kmin_lines.proofs.same_lines.have_same_lines.Given as goal

abbrev pub invariant-loop-line : goal.invariant-loop-line
invariant-loop-line l = have_same_lines l.left l.right ≡ have_same_lines l.fn.text l.fn.other

abbrev pub decreases-loop-line : goal.decreases-loop-line
decreases-loop-line l = length l.left

use Rattle.kmin_missed.proofs.Common.{◌≡◌, ◌++◌, length, pieces, in_one_line}
use Rattle.kmin_missed.proofs.one_line.push_in_one_line.Given as goal

abbrev pub invariant-loop-line : goal.invariant-loop-line
invariant-loop-line l = l.out.items ++ in_one_line l.lead (pieces 10 l.rest) ≡ l.fn.out.items ++ in_one_line l.fn.front (pieces 10 l.fn.text)

abbrev pub decreases-loop-line : goal.decreases-loop-line
decreases-loop-line l = length l.rest

use Rattle.kmin_lines.proofs.Common.{◌≡◌, ℕ, List, ◌++◌, length, lines_of, HasLines}
use Rattle.kmin_lines.proofs.line_bag.LineBag.of.Given as goal

abbrev pub invariant-loop-line : goal.invariant-loop-line
invariant-loop-line l = (lines : List (List ℕ)) × HasLines l.bag lines × (lines ++ lines_of l.rest ≡ lines_of l.fn.text)

abbrev pub decreases-loop-line : goal.decreases-loop-line
decreases-loop-line l = length l.rest

use Rattle.std.proofs.Common.{◌≡◌, ℕ, List, ◌++◌, length}
use Rattle.kmin_lines.specs.Lines.{lines_of, left_over}
use Rattle.kmin_lines.specs.LackingLines.{lacking_lines}
use Rattle.kmin_lines.specs.between.Texts.{texts_of}
use Rattle.kmin_lines.specs.checker.Bags.{HasLines}
use Rattle.kmin_lines.proofs.lacking.lacking_lines.Given as goal

abbrev pub invariant-loop-piece : goal.invariant-loop-piece
invariant-loop-piece l = (others : List (List ℕ)) × HasLines l.bag others
    × (texts_of l.lacking.items ++ left_over (lines_of l.rest) others ≡ lacking_lines l.fn.text l.fn.other)

abbrev pub decreases-loop-piece : goal.decreases-loop-piece
decreases-loop-piece l = length l.rest

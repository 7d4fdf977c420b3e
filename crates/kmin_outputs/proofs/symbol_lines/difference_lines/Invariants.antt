use Rattle.kmin_outputs.proofs.Common.{◌≡◌, take, flat_map, tree_of_settled, line_between}
use Rattle.kc_minimal.specs.declared.difference.Difference.{Difference as DifferenceRef}
use Rattle.kmin_outputs.proofs.symbol_lines.difference_lines.Given as goal

-- `text` has the lines of the differences before this one
abbrev pub invariant-loop-difference : goal.invariant-loop-difference
invariant-loop-difference l =
    l.text.items ≡ flat_map (λ (d : DifferenceRef). line_between l.form l.strings (tree_of_settled l.settled) l.left l.right d.symbol)
    (take l.difference-index l.differences)

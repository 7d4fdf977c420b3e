use Rattle.kc_expansion.proofs.Common.{◌≡◌, ◌++◌, replicate}
use Rattle.kc_expansion.proofs.written_file.push_newlines.Given as goal

abbrev pub invariant-loop-left : goal.invariant-loop-left
invariant-loop-left l = l.bytes.items ++ replicate l.left 10 ≡ l.initial.bytes.items ++ replicate l.count 10

abbrev pub decreases-loop-left : goal.decreases-loop-left
decreases-loop-left l = l.left

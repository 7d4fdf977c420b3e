use Rattle.std.proofs.Common.{◌-◌, length}
use Rattle.kc_lines.specs.between.LinePlaces.{AreIndentedSoFar}
use Rattle.kc_lines.proofs.help.indented_at.Given as goal

abbrev pub invariant-loop-begin : goal.invariant-loop-begin
invariant-loop-begin l = AreIndentedSoFar l.columns l.bytes l.fn.at l.begin l.lines

abbrev pub decreases-loop-begin : goal.decreases-loop-begin
decreases-loop-begin l = length l.bytes - l.begin

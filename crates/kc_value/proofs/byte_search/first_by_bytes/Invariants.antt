use Rattle.kc_value.proofs.Common.{◌≤◌, ◌-◌, length, NonePasses}
use Rattle.kc_value.proofs.byte_search.first_by_bytes.Given as goal

abbrev pub invariant-loop-place : goal.invariant-loop-place
invariant-loop-place g l = record {
  order : l.fn.at ≤ l.place;
  within : l.place ≤ length l.bytes;
  none : NonePasses (g.T.ByteTest.marked l.test) l.bytes l.fn.at l.place;
}

abbrev pub decreases-loop-place : goal.decreases-loop-place
decreases-loop-place g l = length l.bytes - l.place

use Rattle.std.proofs.Common.{arith}
use Rattle.kmin_fakes.proofs.test_streams.Script.new.Goals as goal

pub invariant_of-result : goal.invariant_of-result
invariant_of-result c = record { within = omega arith; gives = c.requires.some }

use Rattle.std.proofs.Common.{Some, ap}
use Rattle.kmin_fakes.proofs.test_streams.Bounded.of.Goals as goal

pub returns-clause-taken : goal.returns-clause-taken
returns-clause-taken c = ap Some c.in_ok-with_capacity.ensures.items

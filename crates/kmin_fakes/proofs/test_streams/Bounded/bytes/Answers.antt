use Rattle.std.proofs.Common.{Some, sym, ap}
use Rattle.kmin_fakes.proofs.test_streams.Bounded.bytes.Goals as goal

pub returns : goal.returns
returns c = ap Some (sym c.deref.ensures.value)

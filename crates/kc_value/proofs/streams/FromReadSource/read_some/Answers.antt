use Rattle.kc_value.proofs.Common.{arith, common_steps}
use Rattle.kc_value.proofs.streams.FromReadSource.read_some.Goals as goal

pub returns-in-Ok-clause-bytes : goal.returns-in-Ok-clause-bytes
returns-in-Ok-clause-bytes g c = c.in-Ok.ensures.bytes

pub returns-in-Ok-clause-bound : goal.returns-in-Ok-clause-bound
returns-in-Ok-clause-bound g c = grind (arith, common_steps)

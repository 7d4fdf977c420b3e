use Rattle.std.proofs.Common.{refl}
use Rattle.kc_value.proofs.streams.ToWrite.new.Goals as goal

pub returns-clause-failures : goal.returns-clause-failures
returns-clause-failures g c = refl

use Rattle.std.proofs.Common.{refl}
use Rattle.kc_rules.proofs.rules.Settled.profile.Goals as goal

pub returns : goal.returns
returns c = refl

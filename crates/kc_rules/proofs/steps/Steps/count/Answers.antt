use Rattle.std.proofs.Common.{refl}
use Rattle.kc_rules.proofs.steps.Steps.count.Goals as goal

pub returns : goal.returns
returns c = refl

use Rattle.std.proofs.Common.{rules}
use Rattle.kc_rules.proofs.rules.Settled.written.Goals as goal

pub returns : goal.returns
returns c = search rules

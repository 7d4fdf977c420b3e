use Rattle.std.proofs.Common.{rules}
use Rattle.kc_value.proofs.tri.Tri.not.Goals as goal

pub returns-in-M-clause-value : goal.returns-in-M-clause-value
returns-in-M-clause-value c = search rules

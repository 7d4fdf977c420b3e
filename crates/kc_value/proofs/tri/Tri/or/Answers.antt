use Rattle.std.proofs.Common.{rules}
use Rattle.kc_value.proofs.tri.Tri.or.Goals as goal

pub returns-in-N-N-clause-value : goal.returns-in-N-N-clause-value
returns-in-N-N-clause-value c = search rules

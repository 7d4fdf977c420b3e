use Rattle.std.proofs.Common.{rules}
use Rattle.kc_value.proofs.tri.Tri.and.Goals as goal

pub returns-in-Y-Y-clause-value : goal.returns-in-Y-Y-clause-value
returns-in-Y-Y-clause-value c = search rules

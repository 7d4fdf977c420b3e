use Rattle.std.proofs.Common.{rules}
use Rattle.kc_evaluation.proofs.tristate_rules.without_m.Goals as goal

pub returns-else-eq : goal.returns-else-eq
returns-else-eq c = search rules

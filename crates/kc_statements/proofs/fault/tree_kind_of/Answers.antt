use Rattle.std.proofs.Common.{rules}
use Rattle.kc_statements.proofs.fault.tree_kind_of.Goals as goal

pub returns-in-TooDeep : goal.returns-in-TooDeep
returns-in-TooDeep c = search rules

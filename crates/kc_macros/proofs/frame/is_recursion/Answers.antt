use Rattle.std.proofs.Common.{rules}
use Rattle.kc_macros.proofs.CallLemmas.{recursion_by}
use Rattle.kc_macros.proofs.frame.is_recursion.Goals as goal

pub returns-then-is_empty : goal.returns-then-is_empty
returns-then-is_empty c = recursion_by c.args.names.now c.args.name.now c.args.args.now c.is_open.result (search rules) c.is_open.ensures

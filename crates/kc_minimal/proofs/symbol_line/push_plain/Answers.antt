use Rattle.kc_minimal.proofs.Common.{arith, common_steps}
use Rattle.kc_minimal.proofs.symbol_line.push_plain.Goals as goal

pub bounds-as_bytes-0 : goal.bounds-as_bytes-0
bounds-as_bytes-0 c = grind (arith, common_steps)

pub returns-in_ok-push-in-len1 : goal.returns-in_ok-push-in-len1
returns-in_ok-push-in-len1 c = grind (arith, common_steps)

pub returns-in_default : goal.returns-in_default
returns-in_default c = grind (arith, common_steps)

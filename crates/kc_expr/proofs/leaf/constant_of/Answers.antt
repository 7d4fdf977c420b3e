use Rattle.kc_expr.proofs.Common.{arith, common_steps}
use Rattle.kc_expr.proofs.leaf.constant_of.Goals as goal

pub returns-in-121 : goal.returns-in-121
returns-in-121 c = grind (arith, common_steps)

pub returns-in_default : goal.returns-in_default
returns-in_default c = grind (arith, common_steps)

pub returns-in-109 : goal.returns-in-109
returns-in-109 c = grind (arith, common_steps)

pub bounds-0 : goal.bounds-0
bounds-0 c = grind (arith, common_steps)

pub returns-in-110 : goal.returns-in-110
returns-in-110 c = grind (arith, common_steps)

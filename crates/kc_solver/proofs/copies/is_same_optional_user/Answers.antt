use Rattle.kc_solver.proofs.Common.{arith, common_steps}
use Rattle.kc_solver.proofs.copies.is_same_optional_user.Goals as goal

pub returns-in_default : goal.returns-in_default
returns-in_default c = grind (arith, common_steps)

pub returns-in-None-None : goal.returns-in-None-None
returns-in-None-None c = grind (arith, common_steps)

pub returns-in-Some-Some : goal.returns-in-Some-Some
returns-in-Some-Some c = grind (arith, common_steps)

use Rattle.kc_dependencies.proofs.Common.{arith, common_steps}
use Rattle.kc_dependencies.proofs.dependencies.push_unit.Goals as goal

pub unit_of-requires : goal.unit_of-requires
unit_of-requires c = grind (arith, common_steps)

pub returns-in_ok-push-in-Some-clause-below : goal.returns-in_ok-push-in-Some-clause-below
returns-in_ok-push-in-Some-clause-below c = grind (arith, common_steps)

pub returns-in_ok-push-in-Some-clause-units : goal.returns-in_ok-push-in-Some-clause-units
returns-in_ok-push-in-Some-clause-units c = grind (arith, common_steps)

use Rattle.kc_dotconfig.proofs.Common.{arith, common_steps}
use Rattle.kc_dotconfig.proofs.assigned_values.AssignedValues.into_list.Goals as goal

pub returns-then-is_empty : goal.returns-then-is_empty
returns-then-is_empty c = grind (arith, common_steps)

pub returns : goal.returns
returns c = grind (arith, common_steps)

use Rattle.kc_value.proofs.Common.{arith, common_steps}
use Rattle.kc_value.proofs.number.strip_prefix.Goals as goal

pub slice_bounds-rest-count : goal.slice_bounds-rest-count
slice_bounds-rest-count c = omega arith

pub returns-in-48 : goal.returns-in-48
returns-in-48 c = grind (arith, common_steps)

pub bounds-text-1 : goal.bounds-text-1
bounds-text-1 c = grind (arith, common_steps)

pub bounds-text-0 : goal.bounds-text-0
bounds-text-0 c = grind (arith, common_steps)

pub returns-in-48-2 : goal.returns-in-48-2
returns-in-48-2 c = grind (arith, common_steps)

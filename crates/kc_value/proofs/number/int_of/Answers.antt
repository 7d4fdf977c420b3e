use Rattle.kc_value.proofs.Common.{◌<◌, ◌^◌, arith, common_steps, elements}
use Rattle.kc_value.specs.Number.{int_text}
use Rattle.kc_value.proofs.number.int_of.Goals as goal

pub returns-then-negative : goal.returns-then-negative
unfolding int_text
returns-then-negative c =
    let below : c.in_ok-value.value < 2 ^ 63 = omega arith in
    grind (arith, common_steps)

pub overflow_cast-result-else-negative : goal.overflow_cast-result-else-negative
overflow_cast-result-else-negative c = grind (arith, common_steps)

pub bounds-text-0 : goal.bounds-text-0
bounds-text-0 c = grind (arith, elements)

pub slice_bounds-rest-start : goal.slice_bounds-rest-start
slice_bounds-rest-start c = grind (arith, common_steps)

pub overflow_cast-result : goal.overflow_cast-result
overflow_cast-result c = grind (arith, common_steps)

pub slice_bounds-rest-count : goal.slice_bounds-rest-count
slice_bounds-rest-count c = grind (arith, common_steps)

pub overflow_sub-result : goal.overflow_sub-result
overflow_sub-result c = grind (arith, common_steps)

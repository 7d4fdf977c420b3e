use Rattle.kc_tokens.proofs.Common.{arith, common_steps}
use Rattle.kc_tokens.proofs.token.any_quoted_at_front.Goals as goal

pub returns-in-None-dollar_left_out-clause-reaches : goal.returns-in-None-dollar_left_out-clause-reaches
returns-in-None-dollar_left_out-clause-reaches c = grind (arith, common_steps)

pub slice_bounds-dollar_left_out-end : goal.slice_bounds-dollar_left_out-end
slice_bounds-dollar_left_out-end c = grind (arith, common_steps)

pub returns-in-None-clause-lead : goal.returns-in-None-clause-lead
returns-in-None-clause-lead c = grind (arith, common_steps)

pub returns-in-Some-dollar_left_out-clause-reaches : goal.returns-in-Some-dollar_left_out-clause-reaches
returns-in-Some-dollar_left_out-clause-reaches c = grind (arith, common_steps)

pub returns-in-Some-dollar_left_out-clause-lead : goal.returns-in-Some-dollar_left_out-clause-lead
returns-in-Some-dollar_left_out-clause-lead c = grind (arith, common_steps)

pub returns-in-None-dollar_left_out-clause-lead : goal.returns-in-None-dollar_left_out-clause-lead
returns-in-None-dollar_left_out-clause-lead c = grind (arith, common_steps)

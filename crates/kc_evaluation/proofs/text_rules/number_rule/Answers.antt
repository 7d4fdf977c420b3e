use Rattle.kc_evaluation.proofs.Common.{arith, common_steps, elements}
use Rattle.kc_evaluation.proofs.text_rules.number_rule.Goals as goal

pub number_default-requires-clause-range : goal.number_default-requires-clause-range
number_default-requires-clause-range c = grind (arith, common_steps)

pub active_range-range-requires : goal.active_range-range-requires
active_range-range-requires c = record { fits = grind (arith, elements) }

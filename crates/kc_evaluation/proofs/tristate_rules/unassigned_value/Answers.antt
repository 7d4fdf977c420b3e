use Rattle.kc_evaluation.proofs.Common.{arith, common_steps, elements}
use Rattle.kc_evaluation.proofs.tristate_rules.unassigned_value.Goals as goal

pub reverse_limit-implied-requires : goal.reverse_limit-implied-requires
reverse_limit-implied-requires c = record { fits = grind (arith, elements) }

pub largest-requires : goal.largest-requires
largest-requires c = grind (arith, common_steps)

pub default_value-default-requires : goal.default_value-default-requires
default_value-default-requires c = grind (arith, common_steps)

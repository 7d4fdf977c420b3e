use Rattle.kc_evaluation.proofs.Common.{arith, common_steps}
use Rattle.kc_evaluation.proofs.text_rules.clamped.Goals as goal

pub returns-in-None : goal.returns-in-None
returns-in-None c = grind (arith, common_steps)

pub bound-high-requires-clause-number : goal.bound-high-requires-clause-number
bound-high-requires-clause-number c = grind (arith, common_steps)

pub bound-low-requires-clause-number : goal.bound-low-requires-clause-number
bound-low-requires-clause-number c = grind (arith, common_steps)

pub bound-low-requires-clause-there : goal.bound-low-requires-clause-there
bound-low-requires-clause-there c = grind (arith, common_steps)

pub bound-high-requires-clause-there : goal.bound-high-requires-clause-there
bound-high-requires-clause-there c = grind (arith, common_steps)

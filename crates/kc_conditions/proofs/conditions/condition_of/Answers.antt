use Rattle.kc_conditions.proofs.Common.{arith, common_steps, elements}
use Rattle.kc_conditions.proofs.conditions.condition_of.Goals as goal

pub join_optional-requires-clause-more : goal.join_optional-requires-clause-more
join_optional-requires-clause-more c = grind (arith, elements)

pub join_optional-requires-clause-all : goal.join_optional-requires-clause-all
join_optional-requires-clause-all c = grind (arith, elements)

pub returns-clause-represents : goal.returns-clause-represents
returns-clause-represents c = grind (arith, common_steps)

use Rattle.kc_rules.proofs.Common.{arith, common_steps, elements}
use Rattle.kc_rules.proofs.settlement.ordered.Goals as goal

pub returns-in-Err-clause-cycle : goal.returns-in-Err-clause-cycle
returns-in-Err-clause-cycle c = c.fault_of.ensures _ _ c.in-Err.ensures.cycle

pub returns-in-Err-clause-profile : goal.returns-in-Err-clause-profile
returns-in-Err-clause-profile c = grind (arith, common_steps)

pub returns-in-Err-clause-tree : goal.returns-in-Err-clause-tree
returns-in-Err-clause-tree c = grind (arith, common_steps)

pub returns-in-Ok-clause-acyclic : goal.returns-in-Ok-clause-acyclic
returns-in-Ok-clause-acyclic c = grind (arith, elements)

pub returns-in-Err-clause-acyclic : goal.returns-in-Err-clause-acyclic
returns-in-Err-clause-acyclic c = grind (arith, common_steps)

pub invariant_of-result : goal.invariant_of-result
invariant_of-result c = grind (arith, common_steps)

use Rattle.kc_rules.proofs.Common.{arith, common_steps, IfOk-weaker}
use Rattle.kc_rules.proofs.settlement.settle.Goals as goal

pub returns-in-Ok-clause-settled : goal.returns-in-Ok-clause-settled
returns-in-Ok-clause-settled c =
    IfOk-weaker c.ordered.result _ _ (λ s acyclic. record { consistent = c.modules_of-modules.ensures.consistent; acyclic = acyclic }) c.ordered.ensures.acyclic

pub returns-in-Err-clause-cycle : goal.returns-in-Err-clause-cycle
returns-in-Err-clause-cycle c = tt

pub returns-in-Ok-clause-back : goal.returns-in-Ok-clause-back
returns-in-Ok-clause-back c = grind (arith, common_steps)

pub returns-in-Ok-clause-profile : goal.returns-in-Ok-clause-profile
returns-in-Ok-clause-profile c = grind (arith, common_steps)

pub returns-in-Ok-clause-cycle : goal.returns-in-Ok-clause-cycle
returns-in-Ok-clause-cycle c = grind (arith, common_steps)

pub returns-in-Ok-clause-tree : goal.returns-in-Ok-clause-tree
returns-in-Ok-clause-tree c = grind (arith, common_steps)

pub invariant_of-ordered : goal.invariant_of-ordered
invariant_of-ordered c = grind (arith, common_steps)

use Rattle.kc_tree.proofs.Common.{arith, common_steps}
use Rattle.kc_tree.proofs.items_with_keys.ItemsWithKeys.push.Goals as goal

pub returns-then-is_err-clause-same_items : goal.returns-then-is_err-clause-same_items
returns-then-is_err-clause-same_items c = grind (arith, common_steps)

pub returns-clause-items : goal.returns-clause-items
returns-clause-items c = grind (arith, common_steps)

pub invariant_of-self-else-is_err : goal.invariant_of-self-else-is_err
invariant_of-self-else-is_err c = grind (arith, common_steps)

pub invariant_of-self-then-is_err : goal.invariant_of-self-then-is_err
invariant_of-self-then-is_err c = grind (arith, common_steps)

pub returns-then-is_err-clause-same_keys : goal.returns-then-is_err-clause-same_keys
returns-then-is_err-clause-same_keys c = grind (arith, common_steps)

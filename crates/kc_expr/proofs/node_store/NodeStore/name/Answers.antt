use Rattle.kc_expr.proofs.Common.{arith, common_steps}
use Rattle.kc_expr.proofs.node_store.NodeStore.name.Goals as goal

pub returns : goal.returns
returns c = grind (arith, common_steps)

pub offset_bounds-as_slice-index : goal.offset_bounds-as_slice-index
offset_bounds-as_slice-index c = grind (arith, common_steps)

pub bounds-as_slice-index : goal.bounds-as_slice-index
bounds-as_slice-index c = grind (arith, common_steps)

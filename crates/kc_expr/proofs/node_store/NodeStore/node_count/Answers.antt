use Rattle.std.proofs.Common.{arith}
use Rattle.kc_expr.proofs.StoreLemmas.{length-nodes}
use Rattle.kc_expr.proofs.node_store.NodeStore.node_count.Goals as goal

pub returns : goal.returns
returns c = omega (arith, length-nodes c.args.self.now, c.len.ensures)

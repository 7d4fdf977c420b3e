use Rattle.kc_expr.proofs.Common.{ap, arith, length, Exprs}
use Rattle.kc_expr.proofs.StoreLemmas.{length-nodes}
use Rattle.kc_expr.proofs.arena.Arena.node_count.Goals as goal

pub returns-clause-most : goal.returns-clause-most
returns-clause-most c = omega (arith, length-nodes c.self.inside.store, ap (λ (x : Exprs). length x.nodes) c.self.view_is, c.self.invariant.few_nodes)

pub returns-clause-count : goal.returns-clause-count
returns-clause-count c = rw (← c.self.view_is) (cc)

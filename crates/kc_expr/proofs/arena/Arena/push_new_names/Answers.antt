use Rattle.kc_expr.proofs.Common.{ap, length, arith, common_steps, Exprs}
use Rattle.kc_expr.proofs.StoreLemmas.{within_nodes, length-nodes}
use Rattle.kc_expr.proofs.arena.Arena.push_new_names.Goals as goal

pub push_new_names-requires-clause-there : goal.push_new_names-requires-clause-there
push_new_names-requires-clause-there c = rw c.index.ensures (within_nodes c.args.self.now c.self.inside.store c.args.id c.self.view_is c.requires.there)

pub push_new_names-requires-clause-room : goal.push_new_names-requires-clause-room
push_new_names-requires-clause-room c = omega (
  arith,
  c.requires.found.room,
  length-nodes c.self.inside.store,
  ap (λ (x : Exprs). length x.nodes) c.self.view_is,
)

pub returns-in-Ok-clause-held : goal.returns-in-Ok-clause-held
returns-in-Ok-clause-held c = grind (arith, common_steps)

use Rattle.kc_expr.proofs.StoreLemmas.{within_nodes}
use Rattle.kc_expr.proofs.arena.Arena.value.Goals as goal

pub value_of-requires-clause-there : goal.value_of-requires-clause-there
value_of-requires-clause-there g c = rw c.index.ensures (within_nodes c.args.self.now c.self.inside.store c.args.id c.self.view_is c.requires.there)

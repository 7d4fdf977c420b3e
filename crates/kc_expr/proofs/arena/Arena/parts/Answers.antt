use Rattle.kc_expr.proofs.StoreLemmas.{within_nodes}
use Rattle.kc_expr.proofs.arena.Arena.parts.Goals as goal

pub parts_of-requires-clause-there : goal.parts_of-requires-clause-there
parts_of-requires-clause-there c = rw c.index.ensures (within_nodes c.args.self.now c.self.inside.store c.args.id c.self.view_is c.requires.there)

use Rattle.std.proofs.Common.{refl}
use Rattle.kmin_expansions.proofs.expanded_trees.insert_at.Goals as goal

pub returns-in-Some : goal.returns-in-Some
returns-in-Some c = rw (← c.in-Some.ensures) c.insert.ensures

pub returns-in-None : goal.returns-in-None
returns-in-None c = rw (← c.in-None.ensures) refl

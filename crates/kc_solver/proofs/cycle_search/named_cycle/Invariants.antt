use Rattle.std.proofs.Common.{◌-◌, length}
use Rattle.kc_solver.proofs.Walks.{Walking}
use Rattle.kc_solver.proofs.cycle_search.named_cycle.Given as goal

abbrev pub invariant-loop-walk : goal.invariant-loop-walk
invariant-loop-walk g l = Walking (g.G.Graph.size l.graph) (g.G.Graph.dependencies l.graph) l.first l.walk.items l.places.items l.u

abbrev pub decreases-loop-walk : goal.decreases-loop-walk
decreases-loop-walk g l = g.G.Graph.size l.graph - length l.walk.items

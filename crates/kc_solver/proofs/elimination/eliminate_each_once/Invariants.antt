use Rattle.kc_solver.proofs.Common.{◌<◌, ℕ, IsElimination, ArePassed, WaitsBeyond}
use Rattle.kc_solver.proofs.elimination.eliminate_each_once.Given as goal

abbrev pub invariant-loop-u : goal.invariant-loop-u
invariant-loop-u g l = record {
  eliminating : IsElimination (g.G.Graph.size l.graph) (g.G.Graph.dependencies l.graph) l.eliminated.items l.flags;
  passed : ArePassed (g.G.Graph.size l.graph) (g.G.Graph.dependencies l.graph) l.flags l.next;
  beyond : (w : ℕ) → w < l.u → WaitsBeyond (g.G.Graph.dependencies l.graph) l.eliminated.items 0 w;
}

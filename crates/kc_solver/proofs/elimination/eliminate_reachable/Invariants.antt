use Rattle.kc_solver.proofs.Common.{◌≤◌, ◌<◌, ◌-◌, ℕ, length, IsElimination, ArePassed, WaitsBeyond}
use Rattle.kc_solver.proofs.elimination.eliminate_reachable.Given as goal

abbrev pub invariant-loop-i : goal.invariant-loop-i
invariant-loop-i g l = record {
  within : l.i ≤ length l.eliminated.items;
  eliminating : IsElimination (g.G.Graph.size l.graph) (g.G.Graph.dependencies l.graph) l.eliminated.items l.flags;
  passed : ArePassed (g.G.Graph.size l.graph) (g.G.Graph.dependencies l.graph) l.flags l.next;
  beyond : (u : ℕ) → u < g.G.Graph.size l.graph → WaitsBeyond (g.G.Graph.dependencies l.graph) l.eliminated.items l.i u;
}

abbrev pub decreases-loop-i : goal.decreases-loop-i
decreases-loop-i g l = g.G.Graph.size l.graph - l.i

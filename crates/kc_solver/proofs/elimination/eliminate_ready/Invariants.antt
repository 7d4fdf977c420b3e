use Rattle.kc_solver.proofs.Common.{◌≤◌, ℕ, length, take, Contains, IsElimination, ArePassed, Grows, WaitsBeyond}
use Rattle.kc_solver.proofs.elimination.eliminate_ready.Given as goal

abbrev pub invariant-loop-u : goal.invariant-loop-u
invariant-loop-u g l = record {
  within : l.u-index ≤ length l.units;
  eliminating : IsElimination (g.G.Graph.size l.graph) (g.G.Graph.dependencies l.graph) l.eliminated.items l.flags;
  passed : ArePassed (g.G.Graph.size l.graph) (g.G.Graph.dependencies l.graph) l.flags l.next;
  grows : Grows l.initial.eliminated.items l.eliminated.items;
  beyond : (u : ℕ) → Contains (take l.u-index l.units) u → WaitsBeyond (g.G.Graph.dependencies l.graph) l.eliminated.items
      (length l.initial.eliminated.items) u;
}

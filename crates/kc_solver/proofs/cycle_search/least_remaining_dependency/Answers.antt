use Rattle.kc_solver.proofs.Common.{arith, get_or, Contains, Contains-get_or}
use Rattle.kc_solver.proofs.Walks.{least_left}
use Rattle.kc_solver.proofs.cycle_search.least_remaining_dependency.Goals as goal

pub bounds-dependencies-first_remaining : goal.bounds-dependencies-first_remaining
bounds-dependencies-first_remaining g c =
    (least_left (g.G.Graph.size c.args.graph.now) (g.G.Graph.dependencies c.args.graph.now) c.args.flags.now c.args.u c.first_remaining.result
    c.deps-dependencies.result.now
    (g.met.G.Graph.graph c.args.graph.now) c.requires.left c.requires.unit c.deps-dependencies.ensures.value
    (λ j d before at. c.first_remaining.ensures.passed j d (omega arith) before at) c.first_remaining.ensures.found).0

pub returns : goal.returns
returns g c = record {
  follows =
      (least_left (g.G.Graph.size c.args.graph.now) (g.G.Graph.dependencies c.args.graph.now) c.args.flags.now c.args.u c.first_remaining.result
      c.deps-dependencies.result.now
      (g.met.G.Graph.graph c.args.graph.now) c.requires.left c.requires.unit c.deps-dependencies.ensures.value
      (λ j d before at. c.first_remaining.ensures.passed j d (omega arith) before at) c.first_remaining.ensures.found).1;
}

pub first_remaining-requires-clause-units : goal.first_remaining-requires-clause-units
first_remaining-requires-clause-units g c = λ k d h.
    let size = g.G.Graph.size c.args.graph.now in
    let graph = g.met.G.Graph.graph c.args.graph.now in
    let listed = c.deps-dependencies.result.now in
    let left = c.requires.unit in
    let has : Contains (g.G.Graph.dependencies c.args.graph.now c.args.u) (get_or listed k d) = rw (← c.deps-dependencies.ensures.value)
    (Contains-get_or listed k d h) in
    let inside = graph.units c.args.u (get_or listed k d) (left.1.units c.args.u left.2) has in
    omega (arith, inside, c.requires.flags)

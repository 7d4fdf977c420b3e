use Rattle.kc_solver.proofs.PlaceSets.{Descends}
use Rattle.kc_solver.proofs.place_sets.least.Given as goal

abbrev pub invariant-loop-level : goal.invariant-loop-level
invariant-loop-level l = Descends l.levels l.words l._level l.word

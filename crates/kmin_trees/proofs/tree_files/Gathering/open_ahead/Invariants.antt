use Rattle.kmin_trees.specs.between.Gatherings.{Gathers}
use Rattle.kmin_trees.proofs.tree_files.Gathering.open_ahead.Given as goal

abbrev pub invariant-loop-number : goal.invariant-loop-number
invariant-loop-number g l =
    Gathers (g.F.Files.surroundings l.fn.files) (g.F.Files.surroundings l.files) (g.F.Files.failures l.fn.files) (g.F.Files.failures l.files) l.fn.self l.self

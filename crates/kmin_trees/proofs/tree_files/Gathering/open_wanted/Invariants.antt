use Rattle.std.proofs.Common.{◌-◌, ◌^◌, length}
use Rattle.kmin_trees.specs.between.Gatherings.{Gathers}
use Rattle.kmin_trees.proofs.tree_files.Gathering.open_wanted.Given as goal

abbrev pub invariant-rounds : goal.invariant-rounds
invariant-rounds g l =
    Gathers (g.F.Files.surroundings l.fn.files) (g.F.Files.surroundings l.files) (g.F.Files.failures l.fn.files) (g.F.Files.failures l.files) l.fn.self l.self

abbrev pub decreases-rounds : goal.decreases-rounds
decreases-rounds g l = 2 ^ 64 - length l.self.texts.list

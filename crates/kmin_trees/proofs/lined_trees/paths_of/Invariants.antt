use Rattle.kmin_trees.proofs.Common.{◌≡◌, map, take, names_of}
use Rattle.kmin_trees.proofs.PathLists.{name_of_file}
use Rattle.kmin_trees.proofs.lined_trees.paths_of.Given as goal

abbrev pub invariant-loop-number : goal.invariant-loop-number
invariant-loop-number l = l.paths.items ≡ map name_of_file (take l.number (names_of l.names).list)

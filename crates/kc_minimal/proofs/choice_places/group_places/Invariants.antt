use Rattle.kc_minimal.proofs.Common.{◌≡◌, map, filter_map, tree_of_settled, place_of, by_group}
use Rattle.kc_minimal.proofs.choice_places.group_places.Given as goal

abbrev pub invariant-loop-u : goal.invariant-loop-u
invariant-loop-u l = l.found.items ≡ map place_of (filter_map (by_group (tree_of_settled l.settled) l.values) l.yielded)

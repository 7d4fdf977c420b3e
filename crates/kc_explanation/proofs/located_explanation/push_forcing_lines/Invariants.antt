use Rattle.kc_explanation.proofs.Common.{◌≡◌, ◌++◌, map, drop, position_view, located_forcing_lines, exprs_of, tree_of, values_of}
use Rattle.kc_tree.specs.between.Views.{reverse_dependency_view}
use Rattle.kc_explanation.proofs.located_explanation.push_forcing_lines.Given as goal

abbrev pub invariant-loop-number : goal.invariant-loop-number
invariant-loop-number l =
    l.out.items ++ located_forcing_lines l.by.strings l.by.paths.now (tree_of l.by) (values_of l.by) l.forces.word.now (map (reverse_dependency_view (exprs_of l.by)) l.forces.all.now) (map position_view l.forces.places.now) (drop l.number-index l.numbers)
    ≡ l.fn.out.items ++ located_forcing_lines l.by.strings l.by.paths.now (tree_of l.by) (values_of l.by) l.forces.word.now (map (reverse_dependency_view (exprs_of l.by)) l.forces.all.now) (map position_view l.forces.places.now) l.numbers

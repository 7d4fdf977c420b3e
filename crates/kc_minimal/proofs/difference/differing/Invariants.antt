use Rattle.kc_minimal.proofs.Common.{◌≡◌, map, filter_map, range_with_len, value_of_symbol, tree_of_settled, difference_at, difference_view}
use Rattle.kc_minimal.proofs.difference.differing.Given as goal

-- the loop of `differing` has found the differing symbols among those below `number`, with their values
abbrev pub invariant-loop-number : goal.invariant-loop-number
invariant-loop-number l =
    l.found.items ≡ map difference_view (filter_map (λ s. difference_at s (value_of_symbol (tree_of_settled l.settled) l.left s)
    (value_of_symbol (tree_of_settled l.settled) l.right s)) (range_with_len 0 l.number))

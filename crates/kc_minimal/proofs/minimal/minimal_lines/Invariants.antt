use Rattle.kc_minimal.proofs.Common.{◌≡◌, filter, flat_map, range_with_len, tree_of_settled, profile_of, file_format, ended_line, has_line}
use Rattle.kc_minimal.proofs.minimal.minimal_lines.Given as goal

-- the loop of `minimal_lines` has written the lines of those symbols below `number` that the minimal file has
abbrev pub invariant-loop-number : goal.invariant-loop-number
invariant-loop-number l =
    l.text.items ≡ flat_map (ended_line (file_format l.format) (tree_of_settled l.settled) l.values)
    (filter (has_line (profile_of l.settled) (tree_of_settled l.settled) l.values) (range_with_len 0 l.number))

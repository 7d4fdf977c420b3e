use Rattle.kc_dotconfig.proofs.Common.{◌≡◌, ◌≤◌, List, ℕ, ◌++◌, length, tree_of_settled, MAX_CONFIG_LINES, file_format, AcceptsBytes}
use Rattle.kc_dotconfig.proofs.fragment_reader.take_bytes.Given as goal

-- the bytes before `rest` are accepted
abbrev pub invariant-loop-at : goal.invariant-loop-at
invariant-loop-at l = record {
  few : l.accumulator.lines ≤ MAX_CONFIG_LINES;
  taken : (front : List ℕ) × (l.fn.bytes ≡ front ++ l.rest) × AcceptsBytes (file_format l.fn.format)
      (tree_of_settled l.fn.settled) l.fn.buffer l.fn.accumulator front l.buffer l.accumulator;
}

abbrev pub decreases-loop-at : goal.decreases-loop-at
decreases-loop-at l = length l.rest

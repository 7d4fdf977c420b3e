use Rattle.kc_minimal.proofs.Common.{◌≡◌, length, drop, tree_of_settled, file_format, IsDraft}
use Rattle.kc_minimal.proofs.full.full_lines.Given as goal

-- in the loop of `full_lines` the draft has a mark for each symbol, and the text of the entries from `i` on completes it to the
-- full file
abbrev pub invariant-loop-i : goal.invariant-loop-i
invariant-loop-i l = record {
  marks : length l.draft.defined.items ≡ length (tree_of_settled l.settled).symbols;
  draft : IsDraft (file_format l.format) (tree_of_settled l.settled) l.values (drop l.i (tree_of_settled l.settled).entries) l.draft;
}

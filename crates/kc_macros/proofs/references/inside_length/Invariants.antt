use Rattle.kc_macros.proofs.Common.{◌≡◌, ◌≤◌, drop, inside_length}
use Rattle.kc_macros.proofs.PieceLemmas.{after}
use Rattle.kc_macros.proofs.references.inside_length.Given as goal

-- none of the first `i` bytes of the text is the `)` that closes the reference
abbrev pub invariant-bytes : goal.invariant-bytes
invariant-bytes l = record {
  few : l.depth ≤ l.i;
  same : inside_length 0 l.text ≡ after l.i (inside_length l.depth (drop l.i l.text));
}

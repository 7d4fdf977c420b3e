use Rattle.kc_macros.proofs.Common.{◌≡◌, ◌≤◌, take, drop, pieces}
use Rattle.kc_macros.proofs.PieceLemmas.{front_onto}
use Rattle.kc_macros.proofs.references.piece_length.Given as goal

-- none of the first `i` bytes of the reference is the comma that ends its first piece
abbrev pub invariant-bytes : goal.invariant-bytes
invariant-bytes l = record {
  few : l.depth ≤ l.i;
  same : pieces 0 l.inside ≡ front_onto (take l.i l.inside) (pieces l.depth (drop l.i l.inside));
}

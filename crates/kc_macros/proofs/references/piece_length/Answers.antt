use Rattle.std.proofs.Common.{◌∙◌, sym, arith}
use Rattle.kc_macros.proofs.PieceLemmas.{piece_here, piece_later, piece_last}
use Rattle.kc_macros.proofs.references.piece_length.Goals as goal

pub bytes-preserved : goal.bytes-preserved
bytes-preserved c = record {
  few = let h = c.open_after-depth.ensures.few in let few = c.bytes.invariant.few in omega arith;
  same = rw c.open_after-depth.ensures.value (piece_later c.args.inside.now c.bytes.i c.bytes.depth (omega arith)
      (sym c.is_outside.ensures ∙ c.if-is_outside.false) c.bytes.invariant.same);
}

pub returns-then-is_outside-clause-pieces : goal.returns-then-is_outside-clause-pieces
returns-then-is_outside-clause-pieces c = piece_here c.args.inside.now c.bytes.i c.bytes.depth (omega arith)
    (sym c.is_outside.ensures ∙ c.if-is_outside.true) c.bytes.invariant.same

pub returns-clause-pieces : goal.returns-clause-pieces
returns-clause-pieces c = piece_last c.args.inside.now c.bytes.i c.bytes.depth (omega arith) c.bytes.invariant.same

use Rattle.std.proofs.Common.{refl, arith}
use Rattle.kc_macros.proofs.PieceLemmas.{pieces_kept, pieces_done}
use Rattle.kc_macros.proofs.references.pieces.Goals as goal

pub pieces-preserved : goal.pieces-preserved
pieces-preserved c =
    let n = c.piece_length-n.result in
    let within = c.piece_length-n.ensures.within in
    pieces_kept c.pieces.pieces.items c.push.new.self.items _ c.pieces.rest.now n _ (omega arith) refl c.in_ok-push.ensures.items c.pieces.invariant
    c.piece_length-n.ensures.pieces _ refl

pub returns-then-n-rest : goal.returns-then-n-rest
returns-then-n-rest c =
    let n = c.piece_length-n.result in
    let within = c.piece_length-n.ensures.within in
    pieces_done c.pieces.pieces.items c.push.new.self.items _ c.pieces.rest.now n _ (omega arith) refl c.in_ok-push.ensures.items c.pieces.invariant
    c.piece_length-n.ensures.pieces

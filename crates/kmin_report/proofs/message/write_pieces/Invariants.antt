use Rattle.std.proofs.Common.{ℕ, List, take}
use Rattle.std.specs.List.{flat_map}
use Rattle.std.specs.Borrow.{Bor}
use Rattle.kmin_report.specs.StandardError.{TakesWhole}
use Rattle.kmin_report.proofs.message.write_pieces.Given as goal

abbrev pub invariant-loop-piece : goal.invariant-loop-piece
invariant-loop-piece g l =
    TakesWhole (g.W.Sink.taken l.fn.sink) (g.W.Sink.failures l.fn.sink) (flat_map (λ (piece : Bor (List ℕ)). piece.now) (take l.piece-index l.pieces))
    (g.W.Sink.taken l.sink) (g.W.Sink.failures l.sink)

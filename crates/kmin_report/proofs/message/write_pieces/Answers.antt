use Rattle.std.proofs.Common.{rules, ℕ, List, [], get_or}
use Rattle.std.specs.Borrow.{Bor}
use Rattle.kmin_report.specs.StandardError.{TakesPart}
use Rattle.kmin_report.proofs.WriterLemmas.{on_err, part_next}
use Rattle.kmin_report.proofs.message.write_pieces.Goals as goal

pub returns-in_err-write_out-clause-part : goal.returns-in_err-write_out-clause-part
returns-in_err-write_out-clause-part g c =
    let W = g.W.Sink in
    let none : Bor (List ℕ) = record { ref_ptr = (0, 0); now = [] } in
    let part : TakesPart (W.taken c.loop-piece.sink) (W.failures c.loop-piece.sink) (get_or c.args.pieces.now c.loop-piece.piece-index none).now
    (W.taken c.write_out.new.sink) (W.failures c.write_out.new.sink) =
    record { written = c.in_err-write_out.field-0.0.written; within = search rules; appends = search rules; rose = c.in_err-write_out.ensures.failed } in
    on_err _ _ (part_next (λ (piece : Bor (List ℕ)). piece.now) c.args.pieces.now c.loop-piece.piece-index none _ (W.taken c.loop-piece.sink) _ _
    (W.failures c.loop-piece.sink) _ (search rules) c.loop-piece.invariant part)

use Rattle.kmin_texts.proofs.Common.{ap, sym, refl, ◌∙◌, arith, slice_get, pieces}
use Rattle.kmin_texts.proofs.NumberedLines.{numbered_line}
use Rattle.kmin_texts.proofs.numbered_lines.line_at.Goals as goal

pub returns-in-Some : goal.returns-in-Some
returns-in-Some c =
    ap (λ lines. slice_get lines 0) (sym c.in-Some.ensures.piece)
    ∙ numbered_line (pieces 10 c.args.bytes.now) (pieces 10 c.after_lines.result.now) c.args.number _ refl (omega arith) c.after_lines.ensures

pub returns-in-None : goal.returns-in-None
returns-in-None c =
    ap (λ bytes. slice_get (pieces 10 bytes) 0) (sym c.in-None.ensures.none)
    ∙ numbered_line (pieces 10 c.args.bytes.now) (pieces 10 c.after_lines.result.now) c.args.number _ refl (omega arith) c.after_lines.ensures

use Rattle.kmin_texts.proofs.Common.{◌∙◌, arith, pieces}
use Rattle.kmin_texts.proofs.NumberedLines.{drop_next}
use Rattle.kmin_texts.proofs.numbered_lines.after_lines.Goals as goal

pub loop-left-preserved : goal.loop-left-preserved
loop-left-preserved c =
    drop_next c.loop-left.left (pieces 10 c.loop-left.rest.now) (pieces 10 c.in-Some.after.now) _ (omega (arith, c.loop-left-test)) c.in-Some.ensures.piece
    ∙ c.loop-left.invariant

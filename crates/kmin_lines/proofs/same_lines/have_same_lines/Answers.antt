use Rattle.kmin_lines.proofs.Common.{sym, ap, ◌∙◌, have_same_lines}
use Rattle.kmin_lines.proofs.SameLines.{same_as_empty}
use Rattle.kmin_lines.proofs.same_lines.have_same_lines.Goals as goal

pub returns : goal.returns
returns c =
    let right = c.loop-line.right.now in
    c.is_empty.ensures ∙ same_as_empty right ∙ ap (λ left. have_same_lines left right) (sym c.in_default.ensures.none) ∙ c.loop-line.invariant

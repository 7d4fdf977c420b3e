use Rattle.kmin_explain.proofs.Common.{◌++◌, ◌∙◌, ap, append_assoc, on_ok_weaker}
use Rattle.std.specs.Prelude.{codes}
use Rattle.kc_explanation.specs.Asked.{line_place}
use Rattle.kmin_explain.proofs.asked_lines.push_overridden_by.Goals as goal

pub returns : goal.returns
returns c = λ read meanings.
    let number = c.args.other.line.now.number in
    on_ok_weaker c.push_line_place.result
    (λ w. w ∙ ap (λ x. x ++ line_place c.path_at.result.now number) c.in_ok-extend_from_slice.ensures.items
    ∙ append_assoc c.args.out.now.items (codes "overridden by ") (line_place c.path_at.result.now number)
    ∙ ap (λ p. c.args.out.now.items ++ (codes "overridden by " ++ line_place p number)) c.path_at.ensures)
    c.push_line_place.ensures

use Rattle.kc_macro_lines.proofs.Common.{◌∙◌, Some, sym, ap, assigned, operator_at}
use Rattle.kc_macro_lines.proofs.FrontLemmas.{assigns_by, assigns_nothing}
use Rattle.kc_macro_lines.proofs.assignment_syntax.assignment_to.Goals as goal

pub returns-in_err-operator-clause-value : goal.returns-in_err-operator-clause-value
returns-in_err-operator-clause-value c =
    rw c.from_residual.ensures
    (assigns_nothing c.args.name.now c.args.after.now (c.in_err-operator.ensures ∙ ap operator_at c.without_white_front.ensures))

pub returns-clause-value : goal.returns-clause-value
returns-clause-value c =
    let operator = c.in_ok-operator.operator in
    ap (λ t. Some (assigned operator t)) c.without_blank_front.ensures
    ∙ assigns_by c.args.name.now c.args.after.now (sym c.is_keyword.ensures ∙ c.if-is_keyword.false) (Some (assigned operator c.in_ok-operator.text.now))
    (c.in_ok-operator.ensures ∙ ap operator_at c.without_white_front.ensures)

use Rattle.kc_dotconfig_model.proofs.Common.{◌≡◌, sym, ◌∙◌, ap, None, arith, common_steps, elements, option_and_then, if_named, named_before}
use Rattle.kc_dotconfig_model.proofs.LineParts.{cut_none, cut_parts, named_is, if_none}
use Rattle.kc_dotconfig_model.proofs.line_parts.named_before.Goals as goal

pub returns-in_err-name-clause-none : goal.returns-in_err-name-clause-none
returns-in_err-name-clause-none c =
    if_none c.from_residual.result (named_before c.args.end c.args.text.now ≡ None)
    (ap (option_and_then if_named) (cut_none c.args.end c.args.text.now (c.in_err-name.ensures.byte c.requires.ascii (λ w o f. f))))

pub returns-clause-some : goal.returns-clause-some
returns-clause-some c =
    let b = c.in_ok-name.ensures.byte c.requires.ascii (λ w o f. f) in
    named_is c.args.end c.args.text.now c.in_ok-name.name.now c.in_ok-name.rest.now
    (cut_parts c.args.end c.args.text.now c.in_ok-name.name.now c.in_ok-name.rest.now b.0 b.1 b.2) (sym c.is_empty.ensures ∙ c.if-is_empty.false)

pub returns-clause-none : goal.returns-clause-none
returns-clause-none c = grind (arith, common_steps)

pub returns-in_err-name-clause-some : goal.returns-in_err-name-clause-some
returns-in_err-name-clause-some c = grind (arith, common_steps)

pub returns-then-is_empty-clause-some : goal.returns-then-is_empty-clause-some
returns-then-is_empty-clause-some c = grind (arith, elements)

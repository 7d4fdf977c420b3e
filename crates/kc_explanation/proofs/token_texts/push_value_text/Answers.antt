use Rattle.kc_explanation.proofs.Common.{◌++◌, ap, ◌∙◌, on_ok_weaker}
use Rattle.kc_explanation.proofs.Spellings.{spelled_is}
use Rattle.kc_explanation.proofs.token_texts.push_value_text.Goals as goal

pub returns : goal.returns
returns c =
    on_ok_weaker c.push_spelled.result
    (λ w. w ∙ ap (λ x. c.args.out.now.items ++ x) (spelled_is c.args.strings c.args.seen.now.kind c.args.seen.now.text.now))
    c.push_spelled.ensures

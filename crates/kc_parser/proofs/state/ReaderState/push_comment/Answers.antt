use Rattle.kc_parser.proofs.Common.{refl, arith, common_steps, of_head, comment}
use Rattle.kc_parser.proofs.HeadSteps.{head_pushed}
use Rattle.kc_parser.proofs.state.ReaderState.push_comment.Goals as goal

pub returns : goal.returns
returns c = λ r before d.
    head_pushed r c.args.at.file c.args.at.line before (comment c.args.title) _ c.push_plain.result refl
    (c.push_plain.ensures.appends r before (of_head (comment c.args.title)) (c.in-Ok.ensures.describes r before d) (c.args.title, c.in-Ok.ensures.kept, refl)
    refl refl)
    c.push_plain.ensures.memory

pub returns-in_default : goal.returns-in_default
returns-in_default c = grind (arith, common_steps)

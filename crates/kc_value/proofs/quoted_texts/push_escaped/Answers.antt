use Rattle.kc_value.proofs.Common.{◌≡◌, rules, length, ◌∙◌, arith, common_steps, elements}
use Rattle.kc_value.proofs.quoted_texts.push_escaped.Goals as goal

pub returns-then-is_err-clause-err : goal.returns-then-is_err-clause-err
returns-then-is_err-clause-err c =
    let len : c.len-len.result ≡ length c.args.out.now.items = search rules in
    let kept : c.truncate.new.self.items ≡ c.args.out.now.items = c.truncate.ensures.items ∙ (rw len c.push_quoted-pushed.ensures.kept) in
    search rules

pub returns-else-is_err-clause-err : goal.returns-else-is_err-clause-err
returns-else-is_err-clause-err c = grind (arith, elements)

pub returns-else-is_err-clause-ok : goal.returns-else-is_err-clause-ok
returns-else-is_err-clause-ok c = grind (arith, common_steps)

pub returns-then-is_err-clause-ok : goal.returns-then-is_err-clause-ok
returns-then-is_err-clause-ok c = grind (arith, common_steps)

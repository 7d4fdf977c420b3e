use Rattle.std.proofs.Common.{rules, sym}
use Rattle.kc_statements.proofs.AttributeViews.{is_prompt_same}
use Rattle.kc_checks.proofs.fault_kinds.is_second_prompt.Goals as goal

pub returns-then-prompted : goal.returns-then-prompted
returns-then-prompted c = λ e. rw (sym (is_prompt_same e c.args.attribute.now)) (search rules)

pub returns-else-prompted : goal.returns-else-prompted
returns-else-prompted c = λ e. rw (sym (is_prompt_same e c.args.attribute.now)) (search rules)

use Rattle.std.proofs.Common.{rules, sym}
use Rattle.kc_statements.proofs.AttributeViews.{is_range_same}
use Rattle.kc_checks.proofs.fault_kinds.is_stray_range.Goals as goal

pub returns-then-is_range : goal.returns-then-is_range
returns-then-is_range c = λ e. rw (sym (is_range_same e c.args.attribute.now)) (search rules)

pub returns-else-is_range : goal.returns-else-is_range
returns-else-is_range c = λ e. rw (sym (is_range_same e c.args.attribute.now)) (search rules)

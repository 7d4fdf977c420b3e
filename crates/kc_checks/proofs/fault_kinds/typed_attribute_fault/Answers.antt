use Rattle.std.proofs.Common.{rules, sym}
use Rattle.kc_statements.proofs.AttributeViews.{type_same}
use Rattle.kc_checks.proofs.fault_kinds.typed_attribute_fault.Goals as goal

pub returns-then-is_other_kind : goal.returns-then-is_other_kind
returns-then-is_other_kind c = λ e. rw (sym (type_same e c.args.attribute.now)) (search rules)

pub returns-then-is_second_prompt : goal.returns-then-is_second_prompt
returns-then-is_second_prompt c = λ e. rw (sym (type_same e c.args.attribute.now)) (search rules)

pub returns-then-is_shapeless : goal.returns-then-is_shapeless
returns-then-is_shapeless c = λ e. rw (sym (type_same e c.args.attribute.now)) (search rules)

pub returns-then-is_stray_range : goal.returns-then-is_stray_range
returns-then-is_stray_range c = λ e. rw (sym (type_same e c.args.attribute.now)) (search rules)

pub returns-then-is_wrong : goal.returns-then-is_wrong
returns-then-is_wrong c = λ e. rw (sym (type_same e c.args.attribute.now)) (search rules)

pub returns-then-is_stray_modules : goal.returns-then-is_stray_modules
returns-then-is_stray_modules c = λ e. rw (sym (type_same e c.args.attribute.now)) (search rules)

pub returns-else-is_stray_modules : goal.returns-else-is_stray_modules
returns-else-is_stray_modules c = λ e. rw (sym (type_same e c.args.attribute.now)) (search rules)

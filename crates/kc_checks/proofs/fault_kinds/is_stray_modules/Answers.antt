use Rattle.std.proofs.Common.{rules, sym}
use Rattle.kc_statements.proofs.AttributeViews.{is_modules_same}
use Rattle.kc_checks.proofs.fault_kinds.is_stray_modules.Goals as goal

pub returns-then-is_modules : goal.returns-then-is_modules
returns-then-is_modules c = λ e. rw (sym (is_modules_same e c.args.attribute.now)) (search rules)

pub returns-else-is_modules : goal.returns-else-is_modules
returns-else-is_modules c = λ e. rw (sym (is_modules_same e c.args.attribute.now)) (search rules)

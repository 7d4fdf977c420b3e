use Rattle.std.proofs.Common.{rules, sym}
use Rattle.kc_statements.proofs.AttributeViews.{default_same}
use Rattle.kc_checks.proofs.fault_kinds.is_shapeless.Goals as goal

pub returns-then-not-is_tri_kind : goal.returns-then-not-is_tri_kind
returns-then-not-is_tri_kind c = λ e. rw (sym (default_same e c.args.attribute.now)) (search rules)

pub returns-else-not-is_tri_kind : goal.returns-else-not-is_tri_kind
returns-else-not-is_tri_kind c = λ e. rw (sym (default_same e c.args.attribute.now)) (search rules)

pub returns-in-None : goal.returns-in-None
returns-in-None c = λ e. rw (sym (default_same e c.args.attribute.now)) (search rules)

use Rattle.kc_expr.proofs.Common.{arith, common_steps}
use Rattle.kc_expr.proofs.names.push_name.Goals as goal

pub returns-in_err-push-clause-kept : goal.returns-in_err-push-clause-kept
returns-in_err-push-clause-kept c = grind (arith, common_steps)

pub returns-in_ok-push-clause-kept : goal.returns-in_ok-push-clause-kept
returns-in_ok-push-clause-kept c = grind (arith, common_steps)

pub returns-in_ok-push-clause-held : goal.returns-in_ok-push-clause-held
returns-in_ok-push-clause-held c = grind (arith, common_steps)

pub returns-in_default : goal.returns-in_default
returns-in_default c = grind (arith, common_steps)

pub returns-in_ok-push-clause-words : goal.returns-in_ok-push-clause-words
returns-in_ok-push-clause-words c = grind (arith, common_steps)

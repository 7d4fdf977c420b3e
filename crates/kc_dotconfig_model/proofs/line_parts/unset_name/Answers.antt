use Rattle.kc_dotconfig_model.proofs.Common.{arith, common_steps, elements}
use Rattle.kc_dotconfig_model.proofs.line_parts.unset_name.Goals as goal

pub after_front-requires-2-text-line : goal.after_front-requires-2-text-line
after_front-requires-2-text-line c = grind (arith, elements)

pub returns-in_err-rest-clause-none : goal.returns-in_err-rest-clause-none
returns-in_err-rest-clause-none c = grind (arith, common_steps)

pub after_front-requires-2 : goal.after_front-requires-2
after_front-requires-2 c = grind (arith, common_steps)

pub returns-in_err-name-clause-some : goal.returns-in_err-name-clause-some
returns-in_err-name-clause-some c = grind (arith, common_steps)

pub returns-in_err-rest-clause-some : goal.returns-in_err-rest-clause-some
returns-in_err-rest-clause-some c = grind (arith, common_steps)

pub returns-else-eq-clause-some : goal.returns-else-eq-clause-some
returns-else-eq-clause-some c = grind (arith, common_steps)

pub returns-in_err-rest-2-clause-some : goal.returns-in_err-rest-2-clause-some
returns-in_err-rest-2-clause-some c = grind (arith, common_steps)

pub returns-then-eq-clause-none : goal.returns-then-eq-clause-none
returns-then-eq-clause-none c = grind (arith, common_steps)

pub after_front-requires : goal.after_front-requires
after_front-requires c = grind (arith, common_steps)

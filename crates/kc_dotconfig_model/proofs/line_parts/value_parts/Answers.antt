use Rattle.kc_dotconfig_model.proofs.Common.{rules, arith, common_steps, elements}
use Rattle.kc_dotconfig_model.proofs.line_parts.value_parts.Goals as goal

pub returns-in_err-rest-clause-none : goal.returns-in_err-rest-clause-none
returns-in_err-rest-clause-none c = search rules

pub after_front-requires : goal.after_front-requires
after_front-requires c = grind (arith, common_steps)

pub returns-clause-none : goal.returns-clause-none
returns-clause-none c = grind (arith, common_steps)

pub returns-clause-some : goal.returns-clause-some
returns-clause-some c = grind (arith, common_steps)

pub named_before-requires-text-text : goal.named_before-requires-text-text
named_before-requires-text-text c = grind (arith, elements)

pub returns-in_err-rest-clause-some : goal.returns-in_err-rest-clause-some
returns-in_err-rest-clause-some c = grind (arith, common_steps)

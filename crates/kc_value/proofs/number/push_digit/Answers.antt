use Rattle.kc_value.proofs.Common.{arith, common_steps, elements}
use Rattle.kc_value.proofs.number.push_digit.Goals as goal

pub returns : goal.returns
returns c = grind (arith, common_steps)

pub returns-in_err-checked_mul : goal.returns-in_err-checked_mul
returns-in_err-checked_mul c = grind (arith, common_steps)

pub returns-in_err-digit : goal.returns-in_err-digit
returns-in_err-digit c = record { value = grind (arith, elements) }

use Rattle.kc_value.proofs.Common.{refl, arith, common_steps}
use Rattle.kc_value.proofs.value.Text.from_string.Goals as goal

pub returns-clause-text : goal.returns-clause-text
returns-clause-text c = refl

pub returns-clause-utf8 : goal.returns-clause-utf8
returns-clause-utf8 c = grind (arith, common_steps)

use Rattle.kc_evaluation.proofs.Common.{arith, elements, common_steps}
use Rattle.kc_evaluation.proofs.valuation.Valuation.operand_text.Goals as goal

pub returns-in-None-look : goal.returns-in-None-look
returns-in-None-look c = grind (arith, elements)

pub returns-in-Some : goal.returns-in-Some
returns-in-Some c = grind (arith, elements)

pub name-requires : goal.name-requires
name-requires c = grind (arith, common_steps)

pub returns-in-Some-Quoted-text : goal.returns-in-Some-Quoted-text
returns-in-Some-Quoted-text c = grind (arith, elements)

pub returns-in-Some-text : goal.returns-in-Some-text
returns-in-Some-text c = grind (arith, elements)

pub operand-requires : goal.operand-requires
operand-requires c = grind (arith, common_steps)

use Rattle.kc_evaluation.proofs.Common.{arith, common_steps}
use Rattle.kc_evaluation.proofs.evaluation.symbol_rule.Goals as goal

pub number_rule-requires-in-Hex-clause-number : goal.number_rule-requires-in-Hex-clause-number
number_rule-requires-in-Hex-clause-number c = grind (arith, common_steps)

pub returns-in_ok-number_rule-in-Int : goal.returns-in_ok-number_rule-in-Int
returns-in_ok-number_rule-in-Int c = grind (arith, common_steps)

pub returns-in_ok-number_rule-in-Hex : goal.returns-in_ok-number_rule-in-Hex
returns-in_ok-number_rule-in-Hex c = grind (arith, common_steps)

pub returns-in_ok-copied-in-Text : goal.returns-in_ok-copied-in-Text
returns-in_ok-copied-in-Text c = grind (arith, common_steps)

pub number_rule-requires-clause-number : goal.number_rule-requires-clause-number
number_rule-requires-clause-number c = grind (arith, common_steps)

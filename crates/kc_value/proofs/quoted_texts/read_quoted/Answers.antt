use Rattle.kc_value.proofs.Common.{arith, common_steps, elements}
use Rattle.kc_value.proofs.quoted_texts.read_quoted.Goals as goal

pub unescape-requires-text-text : goal.unescape-requires-text-text
unescape-requires-text-text c = grind (arith, elements)

pub returns-in-None-clause-none : goal.returns-in-None-clause-none
returns-in-None-clause-none c = grind (arith, common_steps)

pub returns-in_ok-unescape-in-Some-clause-read : goal.returns-in_ok-unescape-in-Some-clause-read
returns-in_ok-unescape-in-Some-clause-read c = grind (arith, common_steps)

pub returns-in-None-clause-read : goal.returns-in-None-clause-read
returns-in-None-clause-read c = omega arith

pub returns-in_ok-unescape-in-Some-clause-none : goal.returns-in_ok-unescape-in-Some-clause-none
returns-in_ok-unescape-in-Some-clause-none c = omega arith

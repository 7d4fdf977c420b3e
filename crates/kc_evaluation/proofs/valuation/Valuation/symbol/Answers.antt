use Rattle.kc_evaluation.proofs.Common.{arith, elements}
use Rattle.kc_evaluation.proofs.valuation.Valuation.symbol.Goals as goal

pub returns-then-is_some : goal.returns-then-is_some
returns-then-is_some c = grind (arith, elements)

pub returns-in-Bool : goal.returns-in-Bool
returns-in-Bool c = grind (arith, elements)

pub returns-in-Text : goal.returns-in-Text
returns-in-Text c = grind (arith, elements)

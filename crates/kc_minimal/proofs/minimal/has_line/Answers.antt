use Rattle.kc_minimal.proofs.Common.{rules, arith, common_steps}
use Rattle.kc_minimal.proofs.minimal.has_line.Goals as goal

pub returns-then-is_n : goal.returns-then-is_n
returns-then-is_n c = search rules

pub is_kept-requires-clause-unit : goal.is_kept-requires-clause-unit
is_kept-requires-clause-unit c = grind (arith, common_steps)

pub symbol-symbol-requires : goal.symbol-symbol-requires
symbol-symbol-requires c = grind (arith, common_steps)

pub value_of_symbol-requires : goal.value_of_symbol-requires
value_of_symbol-requires c = grind (arith, common_steps)

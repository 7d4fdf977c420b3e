use Rattle.kc_parser.proofs.Common.{arith, common_steps}
use Rattle.kc_parser.proofs.symbol_table.pad_with_zeros.Goals as goal

pub returns-in_ok-resize-clause-same : goal.returns-in_ok-resize-clause-same
returns-in_ok-resize-clause-same c = grind (arith, common_steps)

pub returns-in_ok-resize-clause-few : goal.returns-in_ok-resize-clause-few
returns-in_ok-resize-clause-few c = grind (arith, common_steps)

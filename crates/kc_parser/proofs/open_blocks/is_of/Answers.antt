use Rattle.kc_parser.proofs.Common.{arith, elements}
use Rattle.kc_parser.proofs.open_blocks.is_of.Goals as goal

pub returns-in-Some : goal.returns-in-Some
returns-in-Some c = grind (arith, elements)

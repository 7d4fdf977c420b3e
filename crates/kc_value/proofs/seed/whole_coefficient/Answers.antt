use Rattle.std.proofs.Common.{arith}
use Rattle.kc_value.proofs.NameHashSteps.{of_seven}
use Rattle.kc_value.proofs.seed.whole_coefficient.Goals as goal

pub returns-clause-value : goal.returns-clause-value
returns-clause-value c = let s = of_seven c.args.bytes.now c.requires.long in omega (arith, s, c.from_le_bytes.ensures)

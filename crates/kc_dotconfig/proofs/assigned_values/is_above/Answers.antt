use Rattle.kc_dotconfig.proofs.Common.{arith, common_steps}
use Rattle.kc_dotconfig.proofs.AscendingUnits.{above_last}
use Rattle.kc_dotconfig.proofs.assigned_values.is_above.Goals as goal

pub returns-in-Some : goal.returns-in-Some
returns-in-Some c = record { below = λ less. above_last c.args.listed.now c.in-Some.field-0.now c.args.unit c.requires.rising c.in-Some.ensures.value less }

pub returns-in-None : goal.returns-in-None
returns-in-None c = grind (arith, common_steps)

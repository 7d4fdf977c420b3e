use Rattle.kc_dotconfig.proofs.Common.{arith, common_steps}
use Rattle.kc_dotconfig.proofs.meanings.tri_of_text.Goals as goal

pub bounds-0-then-this-lt2-2 : goal.bounds-0-then-this-lt2-2
bounds-0-then-this-lt2-2 c = grind (arith, common_steps)

pub returns-in-Bool-y : goal.returns-in-Bool-y
returns-in-Bool-y c = grind (arith, common_steps)

pub returns-in-Bool-n : goal.returns-in-Bool-n
returns-in-Bool-n c = grind (arith, common_steps)

pub returns-in_default : goal.returns-in_default
returns-in_default c = grind (arith, common_steps)

pub returns-in-Tristate-m : goal.returns-in-Tristate-m
returns-in-Tristate-m c = grind (arith, common_steps)

pub bounds-0 : goal.bounds-0
bounds-0 c = grind (arith, common_steps)

use Rattle.kc_checks.proofs.Common.{arith, elements}
use Rattle.kc_checks.proofs.missing_files.path_of.Goals as goal

pub returns-in-Some : goal.returns-in-Some
returns-in-Some c = grind (arith, elements)

pub returns-in-None : goal.returns-in-None
returns-in-None c = grind (arith, elements)

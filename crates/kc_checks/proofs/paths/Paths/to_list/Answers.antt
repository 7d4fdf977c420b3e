use Rattle.kc_checks.proofs.Common.{arith, common_steps, elements}
use Rattle.kc_checks.proofs.paths.Paths.to_list.Goals as goal

pub returns : goal.returns
returns c = grind (arith, elements)

pub bounds-path-items-path-index : goal.bounds-path-items-path-index
bounds-path-items-path-index c = grind (arith, common_steps)

pub loop-path-preserved : goal.loop-path-preserved
loop-path-preserved c = grind (arith, common_steps)

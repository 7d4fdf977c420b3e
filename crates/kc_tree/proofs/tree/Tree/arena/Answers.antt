use Rattle.kc_tree.proofs.Common.{arith, common_steps}
use Rattle.kc_tree.proofs.tree.Tree.arena.Goals as goal

pub returns-clause-consistent : goal.returns-clause-consistent
returns-clause-consistent c = grind (arith, common_steps)

use Rattle.kc_tree.proofs.Common.{arith, elements}
use Rattle.kc_tree.proofs.unit_numbers.number_members.Goals as goal

pub loop-s-preserved : goal.loop-s-preserved
loop-s-preserved c = grind (arith, elements)

pub returns-clause-units : goal.returns-clause-units
returns-clause-units c = grind (arith, elements)

pub index-requires : goal.index-requires
index-requires c = grind (arith, elements)

use Rattle.kmin_trees.proofs.Common.{none, lines_one}
use Rattle.kmin_trees.proofs.trees.report_settle_fault.Goals as goal

pub returns-in-OutOfMemory-clause-reported : goal.returns-in-OutOfMemory-clause-reported
returns-in-OutOfMemory-clause-reported g c = rw c.in-OutOfMemory.is none

pub returns-in-Cycle-clause-reported : goal.returns-in-Cycle-clause-reported
returns-in-Cycle-clause-reported g c = rw c.in-Cycle.is (lines_one _ _ _ _ _ (rw c.deref.ensures.value at c.report_cycle.ensures))

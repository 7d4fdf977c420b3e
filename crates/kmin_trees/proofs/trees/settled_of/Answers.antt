use Rattle.kmin_trees.proofs.Common.{none, names_of, texts_of}
use Rattle.kmin_trees.proofs.TreeResults.{accepted, settle_stops}
use Rattle.kmin_trees.proofs.trees.settled_of.Goals as goal

pub returns-in-Ok-clause-accepted : goal.returns-in-Ok-clause-accepted
returns-in-Ok-clause-accepted g c =
    accepted (texts_of c.args.names.now) c.args.first.now c.in-Ok.settled.rules.tree c.args.tree c.in-Ok.ensures.tree c.requires.read c.in-Ok.ensures.settled

pub returns-in-Ok-clause-unreported : goal.returns-in-Ok-clause-unreported
returns-in-Ok-clause-unreported g c = none

pub returns-in-Err-clause-stopped : goal.returns-in-Err-clause-stopped
returns-in-Err-clause-stopped g c = (
  _,
  settle_stops (texts_of c.args.names.now) (names_of c.args.names.now) c.args.first.now c.args.tree.tree c.in-Err.fault c.report_settle_fault-stop.result
      c.requires.read c.in-Err.ensures.cycle c.report_settle_fault-stop.ensures.status,
  rw c.in-Err.ensures.back at c.report_settle_fault-stop.ensures.reported,
)

use Rattle.std.proofs.Common.{take}
use Rattle.kmin_report.specs.Reports.{units_text}
use Rattle.kmin_report.specs.StandardError.{TakesWhole}
use Rattle.kmin_report.proofs.message.write_units.Given as goal

abbrev pub invariant-loop-unit : goal.invariant-loop-unit
invariant-loop-unit g l =
    TakesWhole (g.W.Sink.taken l.fn.sink) (g.W.Sink.failures l.fn.sink) (units_text l.tree.tree (take l.unit-index l.units)) (g.W.Sink.taken l.sink)
    (g.W.Sink.failures l.sink)

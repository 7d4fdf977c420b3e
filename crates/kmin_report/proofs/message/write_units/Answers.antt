use Rattle.std.proofs.Common.{rules, slice_get}
use Rattle.kmin_report.specs.Reports.{unit_text}
use Rattle.kmin_report.proofs.WriterLemmas.{on_err, part_next}
use Rattle.kmin_report.proofs.message.write_units.Goals as goal

pub returns-in_err-write_unit-clause-part : goal.returns-in_err-write_unit-clause-part
returns-in_err-write_unit-clause-part g c =
    let tree = c.args.tree.now.tree in
    on_err _ _ (part_next (λ u. unit_text tree (slice_get tree.units u)) c.args.units.now c.loop-unit.unit-index 0 _ (g.W.Sink.taken c.loop-unit.sink) _ _
    (g.W.Sink.failures c.loop-unit.sink) _ (search rules) c.loop-unit.invariant c.in_err-write_unit.ensures.part)

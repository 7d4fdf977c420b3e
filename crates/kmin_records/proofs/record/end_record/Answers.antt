use Rattle.kmin_messages.proofs.WriterSteps.{wrote}
use Rattle.kmin_records.proofs.RecordSteps.{ended_utf8}
use Rattle.kmin_records.proofs.record.end_record.Goals as goal

pub returns-clause-utf8 : goal.returns-clause-utf8
returns-clause-utf8 c =
    ended_utf8 c.args.writer c.end_object.new.self c.into_inner-line.result.items c.push.new.self.items (wrote _ _ _ _ c.in_ok-end_object.ensures)
    c.into_inner-line.ensures.items c.in_ok-push.ensures.items c.into_inner-line.ensures.utf8

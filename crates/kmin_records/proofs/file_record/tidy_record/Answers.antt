use Rattle.std.proofs.Common.{ap, ◌∙◌}
use Rattle.kmin_messages.proofs.WriterSteps.{and_then}
use Rattle.kmin_lines.specs.between.Texts.{texts_of}
use Rattle.kmin_records.proofs.RecordSteps.{recorded, file_record}
use Rattle.kmin_records.proofs.file_record.tidy_record.Goals as goal

pub returns-clause-line : goal.returns-clause-line
returns-clause-line c =
    recorded c.end_record.result c.in_ok-writer.writer c.write_changes.new.writer _ _ _ c.in_ok-writer.ensures.before c.in_ok-writer.ensures.tokens
    (and_then _ _ _ _ _ c.in_ok-write_text.ensures c.in_ok-write_changes.ensures) c.end_record.ensures.line
    (file_record c.args.path.now c.status_name-status.result.now c.args.bytes.now c.args.least.now c.have_same_lines.result (texts_of c.deref.result.now)
    (texts_of c.deref-2.result.now) (texts_of c.deref-3.result.now) (texts_of c.deref-4.result.now) c.have_same_lines.ensures c.status_name-status.ensures
    (ap texts_of c.deref.ensures.value ∙ c.in_ok-out.ensures) (ap texts_of c.deref-2.ensures.value ∙ c.in_ok-in_.ensures)
    (ap texts_of c.deref-3.ensures.value ∙ c.in_ok-out.ensures) (ap texts_of c.deref-4.ensures.value ∙ c.in_ok-in_.ensures))

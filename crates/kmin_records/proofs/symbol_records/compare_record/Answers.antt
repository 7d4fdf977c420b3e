use Rattle.std.proofs.Common.{refl}
use Rattle.kmin_messages.proofs.WriterSteps.{and_then}
use Rattle.kmin_records.proofs.RecordSteps.{recorded}
use Rattle.kmin_records.proofs.symbol_records.compare_record.Goals as goal

pub returns-clause-line : goal.returns-clause-line
returns-clause-line c =
    recorded c.end_record.result c.in_ok-writer.writer c.write_bytes-2.new.writer _ _ _ c.in_ok-writer.ensures.before c.in_ok-writer.ensures.tokens
    (and_then _ _ _ _ _ c.in_ok-write_bytes.ensures c.in_ok-write_bytes-2.ensures) c.end_record.ensures.line refl

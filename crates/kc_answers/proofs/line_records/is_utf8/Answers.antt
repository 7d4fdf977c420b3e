use Rattle.std.proofs.Common.{sym}
use Rattle.kc_answers.proofs.RecordLemmas.{utf8_holds, utf8_fails}
use Rattle.kc_answers.proofs.line_records.is_utf8.Goals as goal

pub returns-in-Ok : goal.returns-in-Ok
returns-in-Ok c = sym (utf8_holds c.args.bytes.now c.in-Ok.ensures.cases.1)

pub returns-in-Err : goal.returns-in-Err
returns-in-Err c = sym (utf8_fails c.args.bytes.now c.in-Err.ensures.cases.0)

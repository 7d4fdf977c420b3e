use Rattle.std.proofs.Common.{rules}
use Rattle.kc_answers.proofs.file_records.record_last.Goals as goal

pub returns : goal.returns
returns c = search rules

pub returns-in_err-waiting : goal.returns-in_err-waiting
returns-in_err-waiting c = search rules

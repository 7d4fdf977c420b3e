use Rattle.std.proofs.Common.{rules}
use Rattle.kc_answers.proofs.line_records.fault_of_line.Goals as goal

pub returns-then-not-is_utf8 : goal.returns-then-not-is_utf8
returns-then-not-is_utf8 c = search rules

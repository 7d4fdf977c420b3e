use Rattle.std.proofs.Common.{rules}
use Rattle.kc_answers.proofs.line_records.record_meaning.Goals as goal

pub returns-in_err-record_answer-in-Answer : goal.returns-in_err-record_answer-in-Answer
returns-in_err-record_answer-in-Answer c = search rules

pub returns-in_ok-record_answer-in-Answer : goal.returns-in_ok-record_answer-in-Answer
returns-in_ok-record_answer-in-Answer c = search rules

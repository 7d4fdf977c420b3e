use Rattle.std.proofs.Common.{rules}
use Rattle.kc_answers.proofs.answer_files.read_whole.Goals as goal

pub returns-in-AtEnd : goal.returns-in-AtEnd
returns-in-AtEnd g c = search rules

pub returns-in-AtFailure : goal.returns-in-AtFailure
returns-in-AtFailure g c = search rules

pub returns-in-AtLimit : goal.returns-in-AtLimit
returns-in-AtLimit g c = search rules

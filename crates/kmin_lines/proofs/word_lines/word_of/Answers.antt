use Rattle.std.proofs.lemmas.Str.{is_utf8-from_IsUtf8}
use Rattle.kmin_lines.proofs.PathLemmas.{not_utf8}
use Rattle.kmin_lines.proofs.word_lines.word_of.Goals as goal

pub returns-in-Ok-clause-utf8 : goal.returns-in-Ok-clause-utf8
returns-in-Ok-clause-utf8 c = is_utf8-from_IsUtf8 c.args.bytes.now c.in-Ok.ensures.cases.1

pub returns-in-Err-clause-not_utf8 : goal.returns-in-Err-clause-not_utf8
returns-in-Err-clause-not_utf8 c = λ _. not_utf8 c.args.bytes.now c.in-Err.ensures.cases.0

use Rattle.kmin_lines.proofs.Common.{rules, is_utf8-from_IsUtf8}
use Rattle.kmin_lines.proofs.PathLemmas.{not_utf8}
use Rattle.kmin_lines.proofs.list.path_of.Goals as goal

pub returns-in_default-clause-not_utf8 : goal.returns-in_default-clause-not_utf8
returns-in_default-clause-not_utf8 c = λ _. not_utf8 c.args.bytes.now c.in_default.ensures.cases.0

pub returns-then-is_one_line-clause-utf8 : goal.returns-then-is_one_line-clause-utf8
returns-then-is_one_line-clause-utf8 c = is_utf8-from_IsUtf8 c.args.bytes.now c.in-Ok.ensures.cases.1

pub returns-else-is_one_line : goal.returns-else-is_one_line
returns-else-is_one_line c = search rules

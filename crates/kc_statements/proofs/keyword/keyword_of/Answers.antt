use Rattle.std.proofs.Common.{rules}
use Rattle.kc_statements.proofs.keyword.keyword_of.Goals as goal

pub returns-in-Word : goal.returns-in-Word
returns-in-Word c = search rules

pub returns-in_default : goal.returns-in_default
returns-in_default c = search rules

use Rattle.std.proofs.Common.{rules}
use Rattle.kmin_lines.proofs.word_lines.words_in.Goals as goal

pub returns : goal.returns
returns c = search rules

use Rattle.std.proofs.Common.{rules}
use Rattle.kmin_lines.proofs.word_files.push_words.Goals as goal

pub returns-in-Some : goal.returns-in-Some
returns-in-Some c = search rules

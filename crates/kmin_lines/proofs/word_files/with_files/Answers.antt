use Rattle.std.proofs.Common.{rules}
use Rattle.kmin_lines.proofs.word_files.with_files.Goals as goal

pub returns-in-Ok : goal.returns-in-Ok
returns-in-Ok c = search rules

use Rattle.std.proofs.Common.{rules}
use Rattle.kmin_lines.proofs.list.listed_paths.Goals as goal

pub returns : goal.returns
returns c = search rules

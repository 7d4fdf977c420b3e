use Rattle.std.proofs.Common.{rules}
use Rattle.kc_files.proofs.name_matches.pass_byte.Goals as goal

pub returns : goal.returns
returns c = search rules

use Rattle.std.proofs.Common.{rules}
use Rattle.kmin_disk.proofs.replacement.fill.Goals as goal

pub returns : goal.returns
returns g c = search rules

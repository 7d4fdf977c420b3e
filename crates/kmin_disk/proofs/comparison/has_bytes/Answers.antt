use Rattle.std.proofs.Common.{rules}
use Rattle.kmin_disk.proofs.comparison.has_bytes.Goals as goal

pub returns-in-Regular : goal.returns-in-Regular
returns-in-Regular g c = search rules

use Rattle.std.proofs.Common.{rules}
use Rattle.kmin_disk.proofs.replacement.create_beside.Goals as goal

pub returns-in-Err-Failed : goal.returns-in-Err-Failed
returns-in-Err-Failed g c = search rules

pub returns-in-Ok-create : goal.returns-in-Ok-create
returns-in-Ok-create g c = search rules

pub returns-in_default : goal.returns-in_default
returns-in_default g c = search rules

pub returns : goal.returns
returns g c = search rules

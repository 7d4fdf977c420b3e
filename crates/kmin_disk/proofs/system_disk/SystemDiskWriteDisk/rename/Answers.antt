use Rattle.std.proofs.Common.{rules}
use Rattle.kmin_disk.proofs.system_disk.SystemDiskWriteDisk.rename.Goals as goal

pub returns-in-Err : goal.returns-in-Err
returns-in-Err c = search rules

pub returns-in-Ok : goal.returns-in-Ok
returns-in-Ok c = search rules

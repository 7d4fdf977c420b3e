use Rattle.std.proofs.Common.{rules}
use Rattle.kmin_disk.proofs.system_disk.SystemDiskWriteDisk.create.Goals as goal

pub returns-in-Err : goal.returns-in-Err
returns-in-Err c = search rules

pub returns-in-Err-2 : goal.returns-in-Err-2
returns-in-Err-2 c = search rules

pub returns-then-eq : goal.returns-then-eq
returns-then-eq c = search rules

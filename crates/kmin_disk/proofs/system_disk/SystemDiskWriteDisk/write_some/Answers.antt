use Rattle.std.proofs.Common.{rules}
use Rattle.kmin_disk.proofs.system_disk.SystemDiskWriteDisk.write_some.Goals as goal

pub returns-else-count-eq0 : goal.returns-else-count-eq0
returns-else-count-eq0 c = search rules

pub returns-in-Err : goal.returns-in-Err
returns-in-Err c = search rules

pub returns-then-not-is_empty : goal.returns-then-not-is_empty
returns-then-not-is_empty c = search rules

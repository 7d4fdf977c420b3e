use Rattle.std.proofs.Common.{rules}
use Rattle.kmin_disk.proofs.file_update.update.Goals as goal

pub returns-in-Err : goal.returns-in-Err
returns-in-Err g c = search rules

pub returns-in-Err-replace : goal.returns-in-Err-replace
returns-in-Err-replace g c = search rules

pub returns-in-Ok : goal.returns-in-Ok
returns-in-Ok g c = search rules

pub returns-in-Ok-true : goal.returns-in-Ok-true
returns-in-Ok-true g c = search rules

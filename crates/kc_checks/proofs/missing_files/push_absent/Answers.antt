use Rattle.std.proofs.Common.{rules}
use Rattle.kc_checks.proofs.missing_files.push_absent.Goals as goal

pub returns-in-None : goal.returns-in-None
returns-in-None c = rw (← c.in-None.ensures) (search rules)

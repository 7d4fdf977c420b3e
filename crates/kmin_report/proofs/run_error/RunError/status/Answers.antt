use Rattle.std.proofs.Common.{rules}
use Rattle.kmin_report.proofs.run_error.RunError.status.Goals as goal

pub returns-in-Failed : goal.returns-in-Failed
returns-in-Failed c = search rules

use Rattle.kmin_tidy.proofs.Common.{none, lines_one}
use Rattle.kmin_tidy.proofs.report.report_problem.Goals as goal

pub returns-in-Some : goal.returns-in-Some
returns-in-Some g c = rw c.in-Some.is (lines_one _ _ _ _ _ (rw c.report_of.ensures at c.write_report.ensures))

pub returns-in-None : goal.returns-in-None
returns-in-None g c = rw c.in-None.is none

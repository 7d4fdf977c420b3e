use Rattle.kmin_report.proofs.WriterLemmas.{lines_one}
use Rattle.kmin_run.proofs.output_file.report_update.Goals as goal

pub returns-in-Unread-clause-reported : goal.returns-in-Unread-clause-reported
returns-in-Unread-clause-reported g c = rw c.in-Unread.is (lines_one _ _ _ _ _ c.report_failure.ensures.reported)

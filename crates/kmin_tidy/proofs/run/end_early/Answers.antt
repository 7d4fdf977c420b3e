use Rattle.kmin_report.proofs.WriterLemmas.{lines_one}
use Rattle.kmin_tidy.proofs.run.end_early.Goals as goal

pub returns-in-Memory-clause-reported : goal.returns-in-Memory-clause-reported
returns-in-Memory-clause-reported g c = lines_one _ _ _ _ _ c.report_stop.ensures

pub returns-in-Left-clause-reported : goal.returns-in-Left-clause-reported
returns-in-Left-clause-reported g c = lines_one _ _ _ _ _ c.report_stop.ensures

use Rattle.kmin_report.specs.StandardError.{none}
use Rattle.kmin_report.proofs.WriterLemmas.{lines_one}
use Rattle.kmin_report.proofs.output.write_output.Goals as goal

pub returns-in-Ok-clause-unreported : goal.returns-in-Ok-clause-unreported
returns-in-Ok-clause-unreported g c = none

pub returns-in-Err-clause-reported : goal.returns-in-Err-clause-reported
returns-in-Err-clause-reported g c = lines_one _ _ _ _ _ c.write_report.ensures

use Rattle.kmin_report.specs.StandardError.{none}
use Rattle.kmin_report.proofs.WriterLemmas.{lines_one}
use Rattle.kmin_report.proofs.LastLines.{last_lines_none}
use Rattle.kmin_report.proofs.output.exit_status.Goals as goal

pub returns-in-Memory-clause-reported : goal.returns-in-Memory-clause-reported
returns-in-Memory-clause-reported g c = rw (c.status.ensures, c.in-Memory.is) (lines_one _ _ _ _ _ c.write_report.ensures)

pub returns-in_default-clause-reported : goal.returns-in_default-clause-reported
returns-in_default-clause-reported g c = rw (c.status-in_default.ensures, last_lines_none c.args.stop c.in_default.not-Memory) none

use Rattle.kmin_outputs.proofs.Common.{none, lines_one}
use Rattle.kmin_outputs.proofs.LoadLines.{load_lines_one, load_status_4}
use Rattle.kmin_outputs.proofs.configurations.report_load_fault.Goals as goal

pub returns-in-OutOfMemory-clause-reported : goal.returns-in-OutOfMemory-clause-reported
returns-in-OutOfMemory-clause-reported g c = rw c.in-OutOfMemory.is none

pub returns-in-Read-clause-reported : goal.returns-in-Read-clause-reported
returns-in-Read-clause-reported g c = rw c.in-Read.is (lines_one _ _ _ _ _ (rw c.in-Read.is at c.write_report.ensures))

pub returns-in_default : goal.returns-in_default
returns-in_default g c = record {
  status = load_status_4 c.args.fault.kind c.in_default.not-OutOfMemory c.in_default.not-Read;
  reported = rw (load_lines_one c.args.path.now c.args.fault.line c.args.fault.kind c.in_default.not-OutOfMemory)
      (lines_one _ _ _ _ _ c.write_report-in_default.ensures);
}

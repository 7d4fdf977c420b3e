use Rattle.kmin_inputs.proofs.Common.{none, lines_one}
use Rattle.kmin_inputs.proofs.AnswerFileLists.{other_status, other_lines}
use Rattle.kmin_inputs.proofs.answers.report_answers_fault.Goals as goal

pub returns-in-OutOfMemory-clause-reported : goal.returns-in-OutOfMemory-clause-reported
returns-in-OutOfMemory-clause-reported g c = rw c.in-OutOfMemory.is none

pub returns-in-Read-clause-reported : goal.returns-in-Read-clause-reported
returns-in-Read-clause-reported g c = rw c.in-Read.is (lines_one _ _ _ _ _ (rw c.in-Read.is at c.write_report.ensures))

pub returns-in_default : goal.returns-in_default
returns-in_default g c = record {
  status = other_status c.args.fault.kind c.in_default.not-Read c.in_default.not-OutOfMemory;
  reported = rw (other_lines c.args.path.now c.args.fault.line c.args.fault.kind c.in_default.not-OutOfMemory)
      (lines_one _ _ _ _ _ c.write_report-in_default.ensures);
}

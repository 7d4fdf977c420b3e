use Rattle.kmin_report.specs.StandardError.{none}
use Rattle.kmin_inputs.proofs.AnswerReads.{ended_for_read}
use Rattle.kmin_inputs.proofs.AnswerFileLists.{reports_fault}
use Rattle.kmin_inputs.proofs.answers.record.Goals as goal

pub returns-in-Ok-clause-unreported : goal.returns-in-Ok-clause-unreported
returns-in-Ok-clause-unreported g c = none

pub returns-in-Err-clause-stopped : goal.returns-in-Err-clause-stopped
returns-in-Err-clause-stopped g c = record {
  fault = c.in-Err.fault;
  reports = reports_fault _ _ _ _ _ c.in-Err.fault c.in-Err.ensures.fault;
  status_is = c.report_answers_fault.ensures.status;
  reported = c.report_answers_fault.ensures.reported;
}

pub returns-in-Err-clause-failed : goal.returns-in-Err-clause-failed
returns-in-Err-clause-failed g c = λ status.
    ended_for_read _ _ (g.S.Source.failures c.args.source.now) (g.S.Source.failures c.read.new.source) _ c.in-Err.fault _ c.in-Err.ensures.fault
    c.report_answers_fault.ensures.status status

use Rattle.kmin_inputs.proofs.Common.{refl, if_err_map}
use Rattle.kmin_inputs.specs.AnswerStops.{unopened}
use Rattle.kmin_inputs.specs.between.AnswerSteps.{at_file}
use Rattle.kmin_inputs.proofs.FailureCounts.{closed_rises}
use Rattle.kmin_report.proofs.Results.{on_ok_map}
use Rattle.kmin_inputs.proofs.AnswerFileLists.{recorded_from, stopped_reading}
use Rattle.kmin_inputs.proofs.answers.record_path.Goals as goal

pub returns-in-Some-clause-recorded : goal.returns-in-Some-clause-recorded
returns-in-Some-clause-recorded g c =
    on_ok_map c.record-recorded.result _ _ (λ h. recorded_from (g.F.Files.surroundings c.args.files.now).content c.args.path.now _ _ _ _
    (rw c.in-Some.is at c.reader_for.ensures.opens) h)
    c.record-recorded.ensures.recorded

pub returns-in-Some-clause-stopped : goal.returns-in-Some-clause-stopped
returns-in-Some-clause-stopped g c =
    if_err_map c.record-recorded.result _ _ (λ stop stopped. stopped_reading _ c.args.path.now _ _ (rw c.in-Some.is at c.reader_for.ensures.opens) _ _ _ _ _ _ _ _
    stopped)
    c.record-recorded.ensures.stopped

pub returns-in-None-clause-stopped : goal.returns-in-None-clause-stopped
returns-in-None-clause-stopped g c = (
  _,
  at_file _ (unopened (rw c.in-None.is at c.reader_for.ensures.opens) c.report_answers_fault.ensures.status refl) refl,
  c.report_answers_fault.ensures.reported,
)

pub returns-in-Some-clause-failed : goal.returns-in-Some-clause-failed
returns-in-Some-clause-failed g c =
    let before = g.F.Files.failures c.args.files.now in
    let unread = rw c.in-Some.is at c.reader_for.ensures.unread in
    if_err_map c.record-recorded.result _ _ (λ stop failed. λ status.
    closed_rises _ _ before (g.F.Files.failures c.reader_for.new.self)
    (g.F.Files.failures c.close.new.self) unread (failed status) c.reader_for.ensures.rising c.close.ensures.failed c.close.ensures.rising)
    c.record-recorded.ensures.failed

pub returns-in-None-clause-failed : goal.returns-in-None-clause-failed
returns-in-None-clause-failed g c = λ status. rw c.in-None.is at c.reader_for.ensures.failed

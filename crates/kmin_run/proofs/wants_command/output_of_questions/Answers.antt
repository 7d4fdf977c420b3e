use Rattle.kmin_run.proofs.Common.{◌∷◌, [], refl, rules, items_of, lines_append, lines_one, if_err}
use Rattle.kmin_expansions.specs.WantedQuestions.{at_fault}
use Rattle.kmin_run.proofs.wants_command.output_of_questions.Goals as goal

pub returns-in_err-listed-clause-stopped : goal.returns-in_err-listed-clause-stopped
returns-in_err-listed-clause-stopped g c =
    if_err c.from_residual.result c.in_err-listed.field-0.0 _ (search rules) c.in_err-listed.ensures.stopped

pub returns-in-Ok-clause-output : goal.returns-in-Ok-clause-output
returns-in-Ok-clause-output g c = (
  items_of c.in-Ok.asked.items,
  rw c.in-Ok.is at c.in_ok-listed.ensures.asked,
  rw c.deref.ensures.value at c.in_ok-lines_of-in-Ok.ensures.text,
  rw c.deref.ensures.value at c.in_ok-lines_of-in-Ok.ensures.status,
)

pub returns-clause-stopped : goal.returns-clause-stopped
returns-clause-stopped g c =
    let asked = rw c.in-Err.is at c.in_ok-listed.ensures.asked in
    (_, at_fault _ asked refl refl, lines_append _ _ _ _ [] (_ ∷ []) _ _ c.in_ok-listed.ensures.unreported (lines_one _ _ _ _ _ c.write_report.ensures))

pub returns-in_err-listed-clause-failed : goal.returns-in_err-listed-clause-failed
returns-in_err-listed-clause-failed g c = if_err c.from_residual.result c.in_err-listed.field-0.0 _ (search rules) c.in_err-listed.ensures.failed

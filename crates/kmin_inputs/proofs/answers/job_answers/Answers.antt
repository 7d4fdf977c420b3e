use Rattle.kmin_inputs.proofs.Common.{ℕ, List, ap, subst, arith, rules, expansion_view, Surroundings, VariableContent, AreLent, if_err, memory_err}
use Rattle.kmin_inputs.proofs.LentAnswers.{answers_of_job}
use Rattle.kmin_inputs.proofs.answers.job_answers.Goals as goal

pub returns-in_err-answers-clause-stopped : goal.returns-in_err-answers-clause-stopped
returns-in_err-answers-clause-stopped g c =
    if_err c.from_residual.result c.in_err-answers.field-0.0 _ (search rules) (rw c.deref.ensures.value at c.in_err-answers.ensures.stopped)

pub returns-clause-answers : goal.returns-clause-answers
returns-clause-answers g c =
    let variable = ap (λ (known : Surroundings). known.variable) c.file_answers.ensures.same in
    let lent = rw c.deref-3.ensures.value at c.in_ok-answer_from_environment.ensures.lent in
    answers_of_job _ _ (expansion_view c.args.expansion.now) c.in_ok-answers.answers c.define.new.answers _
    (rw c.deref.ensures.value at c.in_ok-answers.ensures.recorded) (rw c.deref-2.ensures.value at c.in_ok-define.ensures)
    (subst (λ (variable_of : List ℕ → VariableContent). AreLent variable_of (expansion_view c.args.expansion.now).environment c.define.new.answers
    c.answer_from_environment.new.answers)
    variable lent)

pub returns-in_err-answers-clause-failed : goal.returns-in_err-answers-clause-failed
returns-in_err-answers-clause-failed g c = if_err c.from_residual.result c.in_err-answers.field-0.0 _ (search rules) c.in_err-answers.ensures.failed

pub returns-in_err-define-clause-failed : goal.returns-in_err-define-clause-failed
returns-in_err-define-clause-failed g c = memory_err _ _ c.from_residual-in_err-define.ensures (λ stop status. λ five. absurd (omega arith))

pub returns-in_err-answer_from_environment-clause-failed : goal.returns-in_err-answer_from_environment-clause-failed
returns-in_err-answer_from_environment-clause-failed g c = memory_err _ _ c.from_residual-in_err-answer_from_environment.ensures (λ stop status. λ five. absurd (omega arith))

use Rattle.std.proofs.Common.{[], refl, arith, rules}
use Rattle.kmin_options.specs.Jobs.{questions_view}
use Rattle.kmin_expansions.specs.WantedQuestions.{among_answers, for_memory}
use Rattle.kmin_expansions.proofs.ListedQuestions.{asked_with}
use Rattle.kmin_report.proofs.Results.{if_err, memory_err}
use Rattle.kmin_expansions.proofs.questions.wanted_of.Goals as goal

pub returns-in_err-answers-clause-stopped : goal.returns-in_err-answers-clause-stopped
returns-in_err-answers-clause-stopped g c =
    let stopped = c.in_err-answers.ensures.stopped in
    if_err c.from_residual.result c.in_err-answers.field-0.0 _ (search rules) (stopped.0, among_answers stopped.1, stopped.2)

pub returns-in_err-wanted-clause-stopped : goal.returns-in_err-wanted-clause-stopped
returns-in_err-wanted-clause-stopped g c =
    memory_err _ _ c.from_residual-in_err-wanted.ensures (λ stop status. ([], for_memory status refl, c.in_ok-answers.ensures.unreported))

pub returns-clause-asked : goal.returns-clause-asked
returns-clause-asked g c =
    asked_with _ (g.F.Files.failures c.args.files.now) (g.F.Files.failures c.answers_and_questions.new.files)
    (g.F.Files.failures c.wanted_below-wanted.new.files) c.answers_and_questions.ensures.rising c.wanted_below-wanted.ensures.rising
    (questions_view c.args.questions.now) _ _ _ c.in_ok-answers.ensures.answers
    (rw c.answers_and_questions.ensures.same at c.in_ok-wanted.ensures.asked)

pub returns-in_err-answers-clause-failed : goal.returns-in_err-answers-clause-failed
returns-in_err-answers-clause-failed g c = if_err c.from_residual.result c.in_err-answers.field-0.0 _ (search rules) c.in_err-answers.ensures.failed

pub returns-in_err-wanted-clause-failed : goal.returns-in_err-wanted-clause-failed
returns-in_err-wanted-clause-failed g c = memory_err _ _ c.from_residual-in_err-wanted.ensures (λ stop status. λ five. absurd (omega arith))

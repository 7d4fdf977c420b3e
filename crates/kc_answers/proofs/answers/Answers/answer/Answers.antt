use Rattle.kc_answers.proofs.Common.{ap, ◌∙◌, sym, Some, option_map, keyword_in_table}
use Rattle.kc_answers.proofs.TableLemmas.{answer_items, find_answer}
use Rattle.kc_answers.proofs.answers.Answers.answer.Goals as goal

pub returns-in_err-text : goal.returns-in_err-text
returns-in_err-text c =
    rw c.from_residual.ensures
    (ap (λ o. option_map answer_items o) c.in_err-text.ensures.value
    ∙ sym (find_answer c.args.question.now c.self.inside.entries.entries)
    ∙ ap (λ t. keyword_in_table t c.args.question.now) c.self.view_is)

pub returns-in-Some : goal.returns-in-Some
returns-in-Some c =
    ap (λ b. Some (Some b)) c.as_slice.ensures.value
    ∙ ap (λ a. Some (answer_items a)) (sym c.in-Some.is)
    ∙ ap (λ o. option_map answer_items o) c.in_ok-text.ensures.value
    ∙ sym (find_answer c.args.question.now c.self.inside.entries.entries)
    ∙ ap (λ t. keyword_in_table t c.args.question.now) c.self.view_is

pub returns-in-None : goal.returns-in-None
returns-in-None c =
    ap (λ a. Some (answer_items a)) (sym c.in-None.is)
    ∙ ap (λ o. option_map answer_items o) c.in_ok-text.ensures.value
    ∙ sym (find_answer c.args.question.now c.self.inside.entries.entries)
    ∙ ap (λ t. keyword_in_table t c.args.question.now) c.self.view_is

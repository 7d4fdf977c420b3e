use Rattle.kc_answers.proofs.Common.{ap, ◌∙◌, cond, map, Some, bytes_eq, keyword_in_table, answer_of_entry}
use Rattle.kc_answers.proofs.TableLemmas.{answer_items}
use Rattle.kc_answers.proofs.EntryLemmas.{inserted_at}
use Rattle.kc_answers.proofs.answers.Answers.set.Goals as goal

pub returns-clause-ok : goal.returns-clause-ok
returns-clause-ok c other =
    ap (λ es. keyword_in_table (map answer_of_entry es) other) c.in_ok-insert.ensures.entries
    ∙ inserted_at answer_items c.in_ok-question.question c.in_ok-text.text other c.self.inside.entries.entries
    ∙ ap (λ t. cond (bytes_eq other c.in_ok-question.question.items) (Some (answer_items c.in_ok-text.text)) (keyword_in_table t other)) c.self.view_is
    ∙ ap (λ q. cond (bytes_eq other q) (Some (answer_items c.in_ok-text.text)) (keyword_in_table c.args.self.now other)) c.in_ok-question.ensures.items
    ∙ ap (λ a. cond (bytes_eq other c.args.question.now) (Some a) (keyword_in_table c.args.self.now other)) c.in_ok-text.ensures

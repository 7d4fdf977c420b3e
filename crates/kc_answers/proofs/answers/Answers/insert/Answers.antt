use Rattle.kc_answers.proofs.Common.{ap, ◌∙◌, map, None, ◌++◌, ◌∷◌, [], keyword_in_table, answer_of_entry}
use Rattle.std.specs.Prelude.{◌≡◌}
use Rattle.kc_answers.proofs.TableLemmas.{answer_items, insert_absent}
use Rattle.kc_answers.proofs.answers.Answers.insert.Goals as goal

pub returns-clause-ok : goal.returns-clause-ok
returns-clause-ok c =
    let key = c.in_ok-question.ensures.items in
    let absent : keyword_in_table (map answer_of_entry c.self.inside.entries.entries) c.in_ok-question.question.items ≡ None =
    ap (λ t. keyword_in_table t c.in_ok-question.question.items) c.self.view_is ∙ ap (λ q. keyword_in_table c.args.self.now q) key ∙ c.requires.absent in
    ap (λ es. map answer_of_entry es) c.in_ok-insert.ensures.entries
    ∙ insert_absent c.self.inside.entries.entries c.in_ok-question.question c.in_ok-answer.answer absent
    ∙ ap (λ t. t ++ (c.in_ok-question.question.items, answer_items c.in_ok-answer.answer) ∷ []) c.self.view_is
    ∙ ap (λ q. c.args.self.now ++ (q, answer_items c.in_ok-answer.answer) ∷ []) key
    ∙ ap (λ a. c.args.self.now ++ (c.args.question.now, a) ∷ []) c.in_ok-answer.ensures

use Rattle.kc_answers.proofs.Common.{true, false, ◌∷◌, [], None, sym, ap, ◌∙◌, questions_of}
use Rattle.kc_answers.proofs.TableLemmas.{noted, questions_of_append}
use Rattle.kc_answers.proofs.answers.Answers.note.Goals as goal

pub returns-in_ok-insert : goal.returns-in_ok-insert
returns-in_ok-insert c =
    let old = c.args.self.now in
    let question = c.args.question.now in
    ap questions_of c.in_ok-insert.ensures.ok ∙ questions_of_append old ((question, None) ∷ [])
    ∙ sym (noted old question _ c.answer.result false c.answer.ensures c.if-is_none.ensures)

pub returns-else-is_none : goal.returns-else-is_none
returns-else-is_none c = sym (noted c.args.self.now c.args.question.now _ c.answer.result true c.answer.ensures c.if-is_none.ensures)

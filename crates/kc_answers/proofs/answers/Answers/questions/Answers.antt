use Rattle.kc_answers.proofs.Common.{◌≡◌, ℕ, [], ◌++◌, sym, ap, ◌∙◌, Vec, Global, questions_of}
use Rattle.std.specs.Prelude.{map}
use Rattle.std.specs.Map.Iter.{deref}
use Rattle.std.proofs.lemmas.List.{append-nil}
use Rattle.std.proofs.lemmas.Map.Iter.{rest_all}
use Rattle.kc_answers.proofs.TableLemmas.{questions_of_keys}
use Rattle.kc_answers.proofs.answers.Answers.questions.Goals as goal

pub returns : goal.returns
returns c =
    let texts = map (λ (q : Vec ℕ Global). q.items) in
    let copied = texts c.loop-question.questions.items in
    let none : c.loop-question.question-iterator ≡ [] = rest_all (deref {X = Vec ℕ Global}) _ _ c.next.result c.in-None.is c.next.ensures.steps in
    sym (append-nil copied) ∙ ap (λ rest. copied ++ texts rest) (sym none) ∙ c.loop-question.invariant
    ∙ questions_of_keys c.self.inside.entries.entries ∙ ap questions_of c.self.view_is

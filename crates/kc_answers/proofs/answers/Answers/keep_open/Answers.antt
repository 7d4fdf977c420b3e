use Rattle.kc_answers.proofs.Common.{ℕ, List, ap, ◌∙◌, rules, Vec, is_none, Global, keyword_in_table}
use Rattle.std.specs.Prelude.{map}
use Rattle.std.proofs.lemmas.Fn.{filter_same}
use Rattle.kc_answers.proofs.TableLemmas.{filtered_items}
use Rattle.kc_answers.proofs.answers.Answers.keep_open.Goals as goal

pub returns : goal.returns
returns c =
    let p = λ (question : List ℕ). is_none (keyword_in_table c.args.self.now question) in
    ap (map (λ (v : Vec ℕ Global). v.items))
    (filter_same _ (λ (v : Vec ℕ Global). p v.items) _ (λ x b f' k. search rules) _ _ c.retain.ensures.filtered)
    ∙ filtered_items p c.args.questions.now.items

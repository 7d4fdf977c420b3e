use Rattle.kc_macros.proofs.Common.{ℕ, ap, ◌∙◌, Vec, Global, RunState}
use Rattle.std.specs.Prelude.{map}
use Rattle.kc_macros_model.specs.Worlds.{not_in}
use Rattle.kc_answers.proofs.TableLemmas.{missing_are_not_in}
use Rattle.kc_macros.proofs.expansion_state.ExpansionState.keep_not_asked.Goals as goal

pub returns : goal.returns
returns c =
    let questions = map (λ (q : Vec ℕ Global). q.items) c.args.questions.now.items in
    c.keep_open.ensures ∙ missing_are_not_in c.self.inside.questions questions ∙ ap (λ (s : RunState). not_in s.questions questions) c.self.view_is

use Rattle.kc_answers.proofs.Common.{ap, ◌∙◌, map, take, answer_of_entry}
use Rattle.kc_answers.proofs.TableLemmas.{take_entries}
use Rattle.kc_answers.proofs.answers.Answers.truncate.Goals as goal

pub returns : goal.returns
returns c =
    ap (λ es. map answer_of_entry es) c.truncate.ensures.entries ∙ take_entries c.args.len c.self.inside.entries.entries
    ∙ ap (λ t. take c.args.len t) c.self.view_is

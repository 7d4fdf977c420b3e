use Rattle.kc_expansion.proofs.Common.{ap, ◌∙◌, is_some, is_in_list}
use Rattle.kc_files.proofs.TableLemmas.{some_copied}
use Rattle.kc_expansion.proofs.ChoiceLemmas.{name_is_there}
use Rattle.kc_expansion.proofs.choice_names.ChoiceNames.has.Goals as goal

pub returns : goal.returns
returns c =
    c.is_some.ensures ∙ some_copied c.get.result ∙ ap (λ o. is_some o) c.get.ensures.value
    ∙ name_is_there c.args.name.now c.self.inside.names.entries ∙ ap (is_in_list c.args.name.now) c.self.view_is

use Rattle.kc_files.proofs.Common.{ap, ◌∙◌, is_some, has_key}
use Rattle.kc_files.proofs.TableLemmas.{some_copied}
use Rattle.kc_files.proofs.KeyLemmas.{key_is_there}
use Rattle.kc_files.proofs.expanded_files.ExpandedFiles.has_key.Goals as goal

pub returns : goal.returns
returns c =
    c.is_some.ensures ∙ some_copied c.get.result ∙ ap (λ o. is_some o) c.get.ensures.value
    ∙ key_is_there c.args.key.now c.self.inside.files.entries ∙ ap (λ fs. has_key fs c.args.key.now) c.self.view_is

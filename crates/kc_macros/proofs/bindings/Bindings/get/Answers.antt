use Rattle.kc_macros.proofs.Common.{◌∙◌, ap, sym, option_map, bindings_of, variable_of}
use Rattle.kc_macros.proofs.BindingLemmas.{find_variable, copied_variable}
use Rattle.kc_macros.proofs.bindings.Bindings.get.Goals as goal

pub returns : goal.returns
returns c =
    copied_variable c.get.result
    ∙ ap (λ o. option_map variable_of o) c.get.ensures.value
    ∙ sym (find_variable c.args.name.now c.self.inside.entries.entries)
    ∙ ap (λ es. bindings_of es c.args.name.now) c.self.view_is

use Rattle.kc_macros.proofs.Common.{◌∙◌, map, ap, with_variable, bindings_of, entry_of, variable_of}
use Rattle.kc_macros.proofs.BindingLemmas.{variable_bound}
use Rattle.kc_macros.proofs.bindings.Bindings.bind.Goals as goal

pub returns-in-Ok-clause-ok : goal.returns-in-Ok-clause-ok
returns-in-Ok-clause-ok c =
    ap (λ es. bindings_of (map entry_of es)) c.in-Ok.ensures.entries
    ∙ variable_bound c.self.inside.entries.entries c.into_vec-name.result c.args.variable
    ∙ ap (λ n. with_variable n (variable_of c.args.variable) (bindings_of (map entry_of c.self.inside.entries.entries))) c.into_vec-name.ensures
    ∙ ap (λ es. with_variable c.args.name (variable_of c.args.variable) (bindings_of es)) c.self.view_is

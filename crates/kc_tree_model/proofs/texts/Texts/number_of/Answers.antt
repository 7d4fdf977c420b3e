use Rattle.kc_tree_model.proofs.Common.{ap, ◌∙◌, sym, index_of_file}
use Rattle.kc_tree_model.proofs.TextsLemmas.{number_found, number_absent}
use Rattle.kc_tree_model.proofs.texts.Texts.number_of.Goals as goal

pub returns-in-Some : goal.returns-in-Some
returns-in-Some c =
    number_found c.args.path.now c.self.inside.files.entries c.in-Some.index (sym c.in-Some.ensures.index)
    ∙ ap (λ fs. index_of_file fs c.args.path.now) c.self.view_is

pub returns-in-None : goal.returns-in-None
returns-in-None c =
    c.len.ensures.len
    ∙ number_absent c.args.path.now c.self.inside.files.entries (sym c.in-None.ensures.index)
    ∙ ap (λ fs. index_of_file fs c.args.path.now) c.self.view_is

use Rattle.kc_files.proofs.Common.{ap, ◌∙◌, sym, option_map, keyword_in_table}
use Rattle.kc_files.proofs.TableLemmas.{copied_view, itself, found}
use Rattle.kc_files.proofs.path_table.PathTable.get.Goals as goal

pub returns : goal.returns
returns g c =
    copied_view itself c.get.result
    ∙ ap (λ o. option_map itself o) c.get.ensures.value
    ∙ sym (found itself c.args.path.now c.self.inside.entries.entries)
    ∙ ap (λ t. keyword_in_table t c.args.path.now) c.self.view_is

use Rattle.kc_explanation.proofs.Common.{◌++◌, ap, map, ◌∙◌, codes, on_ok_weaker, symbol_view, position_view, located_forcing_lines, exprs_of, tree_of, values_of}
use Rattle.kc_explanation.proofs.ExplanationLemmas.{joined_two}
use Rattle.kc_explanation.proofs.located_explanation.push_forces.Goals as goal

pub returns : goal.returns
returns c =
    let by = c.args.by.now in
    let symbol = symbol_view (exprs_of by) c.args.symbol.now in
    on_ok_weaker c.push_forcing_lines.result
    (λ w. joined_two c.args.out.now.items _ _ _ _
    (c.in_ok-push_selects.ensures
    ∙ ap (λ ns. c.args.out.now.items ++ located_forcing_lines by.strings by.paths.now (tree_of by) (values_of by) (codes "selected by ") symbol.selectors (map position_view c.args.selectors.now) ns) c.deref.ensures.value)
    (w ∙ ap (λ ns. c.push_selects.new.out.items ++ located_forcing_lines by.strings by.paths.now (tree_of by) (values_of by) (codes "implied by ") symbol.impliers (map position_view c.args.impliers.now) ns) c.deref-2.ensures.value))
    c.push_forcing_lines.ensures

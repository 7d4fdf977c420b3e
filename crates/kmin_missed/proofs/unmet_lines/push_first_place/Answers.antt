use Rattle.kmin_missed.proofs.Common.{◌++◌, ◌∙◌, ap, on_ok_weaker, Symbol, symbol_view, valuation_tree, valuation_exprs, tree_in, place_text, first_place, config_of, same_at}
use Rattle.kmin_missed.proofs.unmet_lines.push_first_place.Goals as goal

pub returns : goal.returns
returns c = λ symbol at.
    let under = c.valuation.result in
    on_ok_weaker c.push_tree_place.result
    (λ w. w ∙ ap (λ (k : Symbol). c.args.out.now.items ++ place_text c.args.by.now.tree_paths.now (first_place k))
    (same_at (valuation_tree under) (tree_in (config_of c.args.by.now)) c.args.s (symbol_view (valuation_exprs under) c.symbol.result) symbol c.valuation.ensures.tree c.symbol.ensures.symbol at))
    c.push_tree_place.ensures

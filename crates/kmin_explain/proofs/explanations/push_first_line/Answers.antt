use Rattle.kmin_explain.proofs.Common.{[], option_map, on_ok_weaker, tree_model_of, sources_model}
use Rattle.kc_symbol_lines.specs.between.LinesView.{position_view}
use Rattle.kmin_explain.proofs.Contexts.{context_of, first_line_in}
use Rattle.kmin_explain.proofs.explanations.push_first_line.Goals as goal

pub returns : goal.returns
returns c =
    let g = sources_model c.args.by.now [] [] in
    let m = tree_model_of c.args.by.now.config.now.system in
    let found = c.args.found.now in
    on_ok_weaker c.push_located_first_line.result
    (first_line_in g m.exprs c.context.result
    (context_of g m.exprs c.context.result c.valuation.result c.context.ensures.under c.context.ensures.strings c.context.ensures.paths
    c.valuation.ensures.exprs c.valuation.ensures.tree c.valuation.ensures.values)
    c.args.out.now.items _ found.symbol.s found.reasons.chosen found.reasons.case (option_map position_view found.places.given_at))
    c.push_located_first_line.ensures

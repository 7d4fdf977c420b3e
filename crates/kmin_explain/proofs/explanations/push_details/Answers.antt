use Rattle.kmin_explain.proofs.Common.{[], on_ok_weaker, tree_model_of, reasons_view, symbol_lines_view, sources_model}
use Rattle.kc_explanation.specs.between.ReasonPlacesView.{places_view}
use Rattle.kmin_explain.proofs.Contexts.{context_of, details_in}
use Rattle.kmin_explain.proofs.explanations.push_details.Goals as goal

pub returns : goal.returns
returns c =
    let g = sources_model c.args.by.now [] [] in
    let m = tree_model_of c.args.by.now.config.now.system in
    let found = c.args.found.now in
    on_ok_weaker c.push_located_details.result
    (details_in g m.exprs c.context.result
    (context_of g m.exprs c.context.result c.valuation.result c.context.ensures.under c.context.ensures.strings c.context.ensures.paths
    c.valuation.ensures.exprs c.valuation.ensures.tree c.valuation.ensures.values)
    c.args.out.now.items _ found.symbol.s (λ e. symbol_lines_view e found.lines) (λ e. reasons_view e found.reasons) (λ e. places_view e found.places))
    c.push_located_details.ensures

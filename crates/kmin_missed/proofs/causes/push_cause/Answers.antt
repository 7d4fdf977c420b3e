use Rattle.kmin_missed.proofs.Common.{◌++◌, ◌∙◌, ap, on_ok_weaker, tree_model_of, reasons_view, symbol_lines_view, valuation_tree, valuation_values, sources_model, symbol_there}
use Rattle.kmin_missed.proofs.CauseTexts.{details_are, cause_appended, cause_known}
use Rattle.kmin_missed.proofs.causes.push_cause.Goals as goal

pub returns : goal.returns
returns c = λ read meanings are.
    let g = sources_model c.args.by.now read meanings in
    let m = tree_model_of c.args.by.now.config.now.system in
    let s = c.args.s in
    let old = c.args.out.now.items in
    let k = symbol_there g.tree.symbols s c.requires.there in
    let found = c.in_ok-found.found in
    let number = c.in_ok-found.ensures.number in
    let is = c.in_ok-found.ensures.explained read meanings k.0 are k.1 in
    on_ok_weaker c.push_in_one_line.result
    (λ w. cause_appended g s k.0 (reasons_view m.exprs found.reasons) (symbol_lines_view m.exprs found.lines)
    (valuation_tree c.valuation.result) (valuation_values c.valuation.result) c.deref.result.now c.valuation.ensures.tree c.valuation.ensures.values
    (c.deref.ensures.value ∙ details_are g m.exprs s k.0 found number is k.1 _ _ c.new-details.ensures.items c.in_ok-push_details.ensures)
    old _ _ _ _ c.in_ok-push_value_of.ensures c.in_ok-extend_from_slice.ensures.items c.in_ok-push_why.ensures w
    ∙ ap (λ x. old ++ x) (cause_known g m.exprs s k.0 found number is k.1))
    c.push_in_one_line.ensures

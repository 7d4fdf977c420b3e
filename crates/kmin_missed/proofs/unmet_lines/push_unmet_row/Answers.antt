use Rattle.kmin_missed.proofs.Common.{◌++◌, sym, ◌∙◌, ap, valuation_tree, valuation_values, reasons_of, sources_model, symbol_there}
use Rattle.kc_tree_model.specs.Contents.{contents_of}
use Rattle.kc_reasons_model.specs.SymbolLines.{lines_of_symbol}
use Rattle.kmin_missed.proofs.UnmetTexts.{unmet_appended, unmet_row_is}
use Rattle.kmin_missed.proofs.unmet_lines.push_unmet_row.Goals as goal

pub returns : goal.returns
returns c = λ read meanings are.
    let g = sources_model c.args.by.now read meanings in
    let s = c.args.s in
    let k = symbol_there g.tree.symbols s c.requires.there in
    unmet_appended g s k.0 (reasons_of g s k.0) (lines_of_symbol g.tree.language (contents_of read) k.0.name)
    (valuation_tree c.valuation.result) (valuation_values c.valuation.result) c.deref.result.now c.valuation.ensures.tree c.valuation.ensures.values
    (c.deref.ensures.value ∙ c.in_ok-details.ensures read meanings k.0 are k.1) c.args.out.now.items _ _ _ _ _ _ _ (c.in_ok-push_first_place.ensures k.0 k.1)
    c.in_ok-extend_from_slice.ensures.items c.in_ok-push_name.ensures c.in_ok-extend_from_slice-2.ensures.items c.in_ok-push_value_of.ensures
    c.in_ok-push_in_one_line.ensures c.in_ok-extend_from_slice-3.ensures.items
    ∙ ap (λ x. c.args.out.now.items ++ x) (sym (unmet_row_is g s k.0 k.1))

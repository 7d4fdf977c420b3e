use Rattle.kmin_missed.proofs.Common.{◌∙◌, ap, symbol_view, tree_model_of, valuation_tree, valuation_exprs, valuation_values, PlainReasons, SymbolLines, reasons_of, reasons_view, symbol_lines_view, sources_model, same_at}
use Rattle.kc_located_reasons.specs.between.PartsView.{located_alternatives_view}
use Rattle.kmin_explain.proofs.Contexts.{context_of}
use Rattle.kmin_missed.specs.checker.UnmetDetails.{unmet_details}
use Rattle.kmin_missed.proofs.UnmetTexts.{lacking_are, unmet_details_are}
use Rattle.kmin_missed.proofs.unmet_lines.unmet_details.Goals as goal

pub returns : goal.returns
returns c = λ read meanings symbol are at.
    let g = sources_model c.args.by.now read meanings in
    let m = tree_model_of c.args.by.now.config.now.system in
    let under = c.valuation.result in
    let by = c.context.result in
    let e = valuation_exprs under in
    let s = c.args.s in
    let code = c.symbol.result in
    let reasons = c.in_ok-reasons.reasons in
    let lines = c.in_ok-lines.lines in
    let unmet = c.in_ok-unmet.unmet.items in
    unmet_details_are g m.exprs by
    (context_of g m.exprs by under c.context.ensures.under c.context.ensures.strings c.context.ensures.paths c.valuation.ensures.exprs c.valuation.ensures.tree c.valuation.ensures.values)
    s symbol (reasons_view m.exprs reasons) (symbol_lines_view m.exprs lines) (λ x. located_alternatives_view x unmet)
    (lacking_are g e m.exprs symbol code lines unmet (valuation_tree under) (valuation_values under)
    c.valuation.ensures.exprs c.valuation.ensures.tree c.valuation.ensures.values
    (same_at (valuation_tree under) g.tree s (symbol_view e code) symbol c.valuation.ensures.tree c.symbol.ensures.symbol at) c.in_ok-unmet.ensures.ok)
    at _ _ c.new-text.ensures.items
    (rw (c.deref.ensures.value, c.deref-2.ensures.value, c.deref-3.ensures.value) at c.in_ok-push_located_unmet.ensures)
    ∙ ap (λ (r : PlainReasons). unmet_details g symbol r (symbol_lines_view m.exprs lines)) (c.in_ok-reasons.ensures.reasons symbol at).are
    ∙ ap (λ (l : SymbolLines). unmet_details g symbol (reasons_of g s symbol) l) (c.in_ok-lines.ensures.lines read meanings symbol are at)

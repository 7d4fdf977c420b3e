use Rattle.kmin_explain.proofs.Common.{◌∙◌, ap, IfOk-weaker, symbol_view, tree_model_of, reasons_view, reasons_of, sources_model}
use Rattle.kmin_explain.proofs.SymbolTexts.{listed_plainly, listed_with_all, symbol_is}
use Rattle.kmin_explain.proofs.symbol_reasons.listed_reasons.Goals as goal

pub returns-else-all : goal.returns-else-all
returns-else-all c = record {
  reasons = λ read meanings symbol at.
      listed_plainly c.args.all symbol (reasons_of (sources_model c.args.by.now read meanings) c.args.s symbol) _ c.if-all.false (c.in_ok-reasons.ensures.reasons symbol at).are;
}

pub returns-then-all : goal.returns-then-all
returns-then-all c = record {
  reasons = λ read meanings symbol at.
      let m = tree_model_of c.args.by.now.config.now.system in
      let same = c.tree.ensures.tree ∙ ap tree_model_of c.settled.ensures in
      IfOk-weaker c.with_all.result _ _
      (λ r listed. listed_with_all c.args.all symbol (symbol_view m.exprs c.symbol.result) (reasons_of (sources_model c.args.by.now read meanings) c.args.s symbol) _ (reasons_view m.exprs r) c.if-all.true
      (symbol_is c.tree.result.now m c.args.s c.symbol.result symbol same c.symbol.ensures.symbol at) (c.in_ok-reasons.ensures.reasons symbol at).are listed)
      (c.with_all.ensures m.exprs);
}

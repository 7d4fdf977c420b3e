use Rattle.kmin_explain.proofs.Common.{◌∙◌, ap, Symbol, Tree, unit_of, symbol_view, tree_in, valuation_tree, valuation_exprs, config_of}
use Rattle.kmin_explain.proofs.ReasonTexts.{same_at}
use Rattle.kmin_explain.proofs.asked_symbols.asked_symbol.Goals as goal

pub returns-clause-unit : goal.returns-clause-unit
returns-clause-unit c = c.symbol-symbol.ensures.unit ∙ ap (λ (t : Tree). unit_of t c.args.s) c.valuation.ensures.tree

pub returns-clause-kind : goal.returns-clause-kind
returns-clause-kind c = λ symbol at.
    let under = c.valuation.result in
    ap (λ (k : Symbol). k.kind)
    (same_at (valuation_tree under) (tree_in (config_of c.args.by.now)) c.args.s (symbol_view (valuation_exprs under) c.symbol-symbol.result) symbol c.valuation.ensures.tree c.symbol-symbol.ensures.symbol at)

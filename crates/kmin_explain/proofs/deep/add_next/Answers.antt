use Rattle.kmin_explain.proofs.Common.{List, length, sym, subst, ◌∙◌, ap, Vec, on_ok_weaker, Exprs, Tree, environment, valuation_tree, valuation_exprs, valuation_values, LowPart, alternatives_view, reasons_view, each_once_after, blamed_in, sources_model}
use Rattle.kc_reasons.specs.between.Parts.{AreThere}
use Rattle.kmin_explain.proofs.SymbolTexts.{symbol_there}
use Rattle.kmin_explain.proofs.DeepLemmas.{next_added}
use Rattle.kmin_explain.proofs.deep.add_next.Goals as goal

pub add_all_blamed-requires-clause-there : goal.add_all_blamed-requires-clause-there
add_all_blamed-requires-clause-there c =
    subst (AreThere (valuation_exprs c.valuation.result)) (sym c.deref.ensures.value)
    (subst (λ (e : Exprs). AreThere e c.in_ok-reasons.reasons.needs.items) (sym c.valuation.ensures.exprs) c.in_ok-reasons.ensures.needs)

pub add_all_blamed-requires-clause-many : goal.add_all_blamed-requires-clause-many
add_all_blamed-requires-clause-many c = c.requires.many ∙ ap (λ (t : Tree). length t.symbols) (sym c.valuation.ensures.tree)

pub add_all_blamed-requires-2-clause-there : goal.add_all_blamed-requires-2-clause-there
add_all_blamed-requires-2-clause-there c =
    subst (AreThere (valuation_exprs c.valuation.result)) (sym c.deref-2.ensures.value)
    (subst (λ (e : Exprs). AreThere e c.in_ok-reasons.reasons.unmet.items) (sym c.valuation.ensures.exprs) c.in_ok-reasons.ensures.unmet)

pub returns-clause-found : goal.returns-clause-found
returns-clause-found c = λ read meanings.
    let g = sources_model c.args.by.now read meanings in
    let under = c.valuation.result in
    let tree = valuation_tree under in
    let names = environment tree (valuation_values under) in
    let e = valuation_exprs under in
    let r = c.in_ok-reasons.reasons in
    let k = symbol_there g.tree.symbols c.args.s c.requires.there in
    let found = c.args.seen.now.found.items in
    let one = c.add_all_blamed.new.seen.found.items in
    on_ok_weaker c.add_all_blamed-2.result
    (λ w. next_added g c.args.s k.0 (reasons_view e r) tree (valuation_values under) k.1
    (ap (λ (x : Exprs). reasons_view x r) c.valuation.ensures.exprs ∙ (c.in_ok-reasons.ensures.reasons k.0 k.1).are)
    c.valuation.ensures.tree c.valuation.ensures.values found one _
    (c.in_ok-add_all_blamed.ensures.found ∙ ap (λ (vs : List (Vec LowPart)). each_once_after found (blamed_in tree names (alternatives_view e vs))) c.deref.ensures.value)
    (w ∙ ap (λ (vs : List (Vec LowPart)). each_once_after one (blamed_in tree names (alternatives_view e vs))) c.deref-2.ensures.value))
    c.add_all_blamed-2.ensures.found

pub returns-clause-many : goal.returns-clause-many
returns-clause-many c = on_ok_weaker c.add_all_blamed-2.result (λ w. w ∙ ap (λ (t : Tree). length t.symbols) c.valuation.ensures.tree) c.add_all_blamed-2.ensures.many

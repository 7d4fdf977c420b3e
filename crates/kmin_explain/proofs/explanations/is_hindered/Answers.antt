use Rattle.kmin_explain.proofs.Common.{true, not, sym, ◌∙◌, ap, is_some, TreeModel, unit_of, tree_model_of, assigning_place, PlainReasons, place_view, sources_model}
use Rattle.kmin_explain.proofs.SymbolTexts.{symbol_there, without_line, hindered_by, some_mapped}
use Rattle.kmin_explain.proofs.explanations.is_hindered.Goals as goal

pub returns-then-is_none : goal.returns-then-is_none
returns-then-is_none c = λ read meanings are.
    let g = sources_model c.args.by.now read meanings in
    let s = c.args.s in
    let k = symbol_there g.tree.symbols s c.requires.there in
    let own = c.unit_of-unit.ensures.unit ∙ ap (λ (t : TreeModel). unit_of t.tree s) (c.tree.ensures.tree ∙ ap tree_model_of c.settled.ensures) in
    let place = c.deciding_line.ensures g.tree meanings own are.kept in
    sym (without_line g s k.0 k.1
    (ap (λ u. is_some (assigning_place u s 0 meanings)) (sym own) ∙ ap is_some (sym place) ∙ some_mapped place_view c.deciding_line.result
    ∙ c.is_none.ensures ∙ ap not c.if-is_none.true))

pub returns : goal.returns
returns c = λ read meanings are.
    let g = sources_model c.args.by.now read meanings in
    let s = c.args.s in
    let k = symbol_there g.tree.symbols s c.requires.there in
    let own = c.unit_of-unit.ensures.unit ∙ ap (λ (t : TreeModel). unit_of t.tree s) (c.tree.ensures.tree ∙ ap tree_model_of c.settled.ensures) in
    let place = c.deciding_line.ensures g.tree meanings own are.kept in
    sym (hindered_by g s k.0 true c.is_some.result k.1
    (ap (λ u. is_some (assigning_place u s 0 meanings)) (sym own) ∙ ap is_some (sym place) ∙ some_mapped place_view c.deciding_line.result
    ∙ c.is_none.ensures ∙ ap not c.if-is_none.false)
    (ap (λ (r : PlainReasons). is_some r.hindrance) (sym (c.in_ok-reasons.ensures.reasons k.0 k.1).are) ∙ sym c.is_some.ensures))

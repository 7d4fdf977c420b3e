use Rattle.kc_explanation.proofs.Common.{◌++◌, ap, sym, map, ◌∙◌, on_ok_weaker, symbol_view, valuation_tree, valuation_exprs, valuation_values, reasons_view, position_view, symbol_lines_view, places_view}
use Rattle.kc_explanation.proofs.PartLines.{placed_details, placed_details_are}
use Rattle.kc_explanation.proofs.ExplanationLemmas.{located_details_is}
use Rattle.kc_explanation.proofs.located_explanation.push_located_details.Goals as goal

pub returns : goal.returns
returns c =
    let exprs = valuation_exprs c.args.by.now.under.now in
    let tree = valuation_tree c.args.by.now.under.now in
    let values = valuation_values c.args.by.now.under.now in
    let strings = c.args.by.now.strings in
    let paths = c.args.by.now.paths.now in
    let r = c.args.reasons.now in
    let places = c.args.places.now in
    let symbol = symbol_view exprs c.symbol.result in
    let lines = symbol_lines_view exprs c.args.lines.now in
    let old = c.args.out.now.items in
    on_ok_weaker c.push_details.result
    (λ w. w
    ∙ ap (λ ns. old ++ placed_details strings tree values exprs symbol r.hindrance r.selected_by.items r.implied_by.items paths ns c.deref-2.result.now (map position_view c.deref-3.result.now) (map position_view c.deref-4.result.now)) c.deref.ensures.value
    ∙ ap (λ ns. old ++ placed_details strings tree values exprs symbol r.hindrance r.selected_by.items r.implied_by.items paths places.needs.items ns (map position_view c.deref-3.result.now) (map position_view c.deref-4.result.now)) c.deref-2.ensures.value
    ∙ ap (λ ps. old ++ placed_details strings tree values exprs symbol r.hindrance r.selected_by.items r.implied_by.items paths places.needs.items places.unmet.items (map position_view ps) (map position_view c.deref-4.result.now)) c.deref-3.ensures.value
    ∙ ap (λ ps. old ++ placed_details strings tree values exprs symbol r.hindrance r.selected_by.items r.implied_by.items paths places.needs.items places.unmet.items lines.selectors (map position_view ps)) c.deref-4.ensures.value
    ∙ ap (λ x. old ++ x) (placed_details_are strings tree values exprs symbol r.hindrance r.selected_by.items r.implied_by.items paths places.needs.items places.unmet.items lines.selectors lines.impliers)
    ∙ ap (λ x. old ++ x) (sym (located_details_is strings paths tree values c.args.s symbol lines (reasons_view exprs r) (places_view exprs places) c.symbol.ensures.symbol)))
    c.push_details.ensures

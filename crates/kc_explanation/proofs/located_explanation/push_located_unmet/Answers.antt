use Rattle.kc_explanation.proofs.Common.{◌++◌, ap, sym, map, ◌∙◌, codes, on_ok_weaker, symbol_view, valuation_tree, valuation_exprs, valuation_values, environment, position_view, located_alternatives_view}
use Rattle.kc_explanation.proofs.PartLines.{located_lines}
use Rattle.kc_explanation.proofs.ExplanationLemmas.{located_unmet_is, joined_two}
use Rattle.kc_explanation.proofs.located_explanation.push_located_unmet.Goals as goal

pub returns : goal.returns
returns c =
    let exprs = valuation_exprs c.args.by.now.under.now in
    let tree = valuation_tree c.args.by.now.under.now in
    let values = valuation_values c.args.by.now.under.now in
    on_ok_weaker c.push_part_lines.result
    (λ w. joined_two c.args.out.now.items _ _ _ _ c.in_ok-push_selects.ensures
    (w ∙ ap (λ x. c.push_selects.new.out.items ++ x) (located_lines c.args.by.now.strings (environment tree values) exprs c.args.by.now.paths.now (codes "unmet: ") c.args.unmet.now))
    ∙ ap (λ x. c.args.out.now.items ++ x)
    (sym (located_unmet_is c.args.by.now.strings c.args.by.now.paths.now tree values c.args.s (symbol_view exprs c.symbol.result)
    (map position_view c.args.selectors.now) c.args.selected_by.now (located_alternatives_view exprs c.args.unmet.now) c.symbol.ensures.symbol)))
    c.push_part_lines.ensures

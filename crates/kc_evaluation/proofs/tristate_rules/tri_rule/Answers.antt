use Rattle.kc_evaluation.proofs.Common.{ap, cond, ◌∙◌, arith, elements, tri_or, symbol_view, valuation_tree, valuation_exprs, valuation_values}
use Rattle.kc_value.specs.Tri.{y_for_m}
use Rattle.kc_rules_model.specs.Rule.{promoted, selected, leaves_no_m}
use Rattle.kc_evaluation.proofs.tristate_rules.tri_rule.Goals as goal

pub returns : goal.returns
returns c = record {
  value = let tree = valuation_tree c.args.under.now in
      let values = valuation_values c.args.under.now in
      let symbol = symbol_view (valuation_exprs c.args.under.now) c.args.symbol.now in
      let whole = c.raised-selected.ensures.value ∙ ap (λ t. tri_or t (selected tree values symbol)) c.base-base.ensures.value in
      c.without_m.ensures.value ∙ ap (λ t. cond (leaves_no_m c.args.profile tree values symbol) (y_for_m t) t)
      (c.promoted-value.ensures ∙ ap (promoted tree values symbol.kind) whole);
}

pub raised-selected-requires : goal.raised-selected-requires
raised-selected-requires c = record { fits = grind (arith, elements) }

use Rattle.kc_reasons.proofs.Common.{ap, sym, ◌∙◌, option_copied, symbol_view, valuation_tree, valuation_exprs, valuation_values}
use Rattle.kc_value.specs.Tri.{tri_or}
use Rattle.kc_rules_model.specs.Rule.{base, selected}
use Rattle.kc_reasons_model.specs.Cases.{lift_of}
use Rattle.kc_reasons_model.proofs.CaseLaws.{case_gives}
use Rattle.kc_reasons.proofs.tristates.lift.Goals as goal

pub returns : goal.returns
returns c = record {
  value = let tree = valuation_tree c.args.under.now in
      let profile = c.args.under.now.rules.now.profile in
      let values = valuation_values c.args.under.now in
      let symbol = symbol_view (valuation_exprs c.args.under.now) c.args.symbol.now in
      let whole = c.or-given.ensures.value ∙ ap (λ t. tri_or t c.reverse_limit.result) c.base-base.ensures.value
      ∙ ap (tri_or (base profile tree values symbol c.assigned_tri.result)) c.reverse_limit.ensures.value
      ∙ ap (λ u. tri_or (base profile tree values symbol u) (selected tree values symbol)) c.assigned_tri.ensures
      ∙ sym (case_gives tree values profile symbol (option_copied c.args.user)) in
      c.lift_by.ensures.value ∙ ap (lift_of profile tree symbol values) whole;
}

use Rattle.kc_reasons.proofs.Common.{◌≡◌, map, drop, valuation_tree, valuation_exprs, valuation_values}
use Rattle.kc_tree.specs.between.Views.{default_view}
use Rattle.kc_evaluation.specs.checker.RuleParts.{active_default_of}
use Rattle.kc_reasons.proofs.tristates.active_mark.Given as goal

abbrev pub invariant-loop-default : goal.invariant-loop-default
invariant-loop-default l =
    active_default_of (valuation_tree l.under) (valuation_values l.under) (map (default_view (valuation_exprs l.under)) (drop l.default-index l.defaults))
    ≡ active_default_of (valuation_tree l.under) (valuation_values l.under) (map (default_view (valuation_exprs l.under)) l.defaults)

use Rattle.kc_evaluation.proofs.Common.{◌≡◌, map, drop, default_view, active_default_of, valuation_tree, valuation_exprs, valuation_values}
use Rattle.kc_evaluation.proofs.tristate_rules.default_value.Given as goal

abbrev pub invariant-loop-default : goal.invariant-loop-default
invariant-loop-default l =
    active_default_of (valuation_tree l.under) (valuation_values l.under) (map (default_view (valuation_exprs l.under)) (drop l.default-index l.defaults))
    ≡ active_default_of (valuation_tree l.under) (valuation_values l.under) (map (default_view (valuation_exprs l.under)) l.defaults)

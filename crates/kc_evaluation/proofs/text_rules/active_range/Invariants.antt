use Rattle.kc_evaluation.proofs.Common.{◌≡◌, map, drop, valuation_tree, valuation_exprs, valuation_values}
use Rattle.kc_tree.specs.between.Views.{range_view}
use Rattle.kc_evaluation.specs.checker.Texts.{active_range_of}
use Rattle.kc_evaluation.proofs.text_rules.active_range.Given as goal

abbrev pub invariant-loop-range : goal.invariant-loop-range
invariant-loop-range l =
    active_range_of (valuation_tree l.under) (valuation_values l.under) (map (range_view (valuation_exprs l.under)) (drop l.range-index l.ranges))
    ≡ active_range_of (valuation_tree l.under) (valuation_values l.under) (map (range_view (valuation_exprs l.under)) l.ranges)

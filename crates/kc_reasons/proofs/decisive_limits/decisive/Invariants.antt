use Rattle.kc_reasons.proofs.Common.{◌≡◌, ◌++◌, map, drop, valuation_tree, valuation_exprs, valuation_values, numbers_where}
use Rattle.kc_tree.specs.between.Views.{reverse_dependency_view}
use Rattle.kc_reasons.specs.checker.LargestLimits.{is_largest}
use Rattle.kc_reasons.proofs.decisive_limits.decisive.Given as goal

abbrev pub invariant-loop-number : goal.invariant-loop-number
invariant-loop-number l =
    l.found.items ++ numbers_where (is_largest (valuation_tree l.under) (valuation_values l.under) l.most) l.number (map (reverse_dependency_view (valuation_exprs l.under)) (drop l.number l.all))
    ≡ numbers_where (is_largest (valuation_tree l.under) (valuation_values l.under) l.most) 0 (map (reverse_dependency_view (valuation_exprs l.under)) l.all)

use Rattle.kc_evaluation.proofs.Common.{◌≡◌, map, drop, tri_or, largest, valuation_tree, valuation_exprs, valuation_values}
use Rattle.kc_tree.specs.between.Views.{reverse_dependency_view}
use Rattle.kc_rules_model.specs.Rule.{reverse_dependency_limit}
use Rattle.kc_evaluation.proofs.tristate_rules.raised.Given as goal

abbrev pub invariant-loop-force : goal.invariant-loop-force
invariant-loop-force l =
    tri_or l.most (largest (reverse_dependency_limit (valuation_tree l.under) (valuation_values l.under)
    (map (reverse_dependency_view (valuation_exprs l.under)) (drop l.force-index l.all)))) ≡ tri_or l.fn.least (largest
    (reverse_dependency_limit (valuation_tree l.under) (valuation_values l.under) (map (reverse_dependency_view (valuation_exprs l.under)) l.all)))

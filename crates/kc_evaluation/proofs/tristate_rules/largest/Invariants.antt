use Rattle.kc_evaluation.proofs.Common.{◌≡◌, map, drop, tri_or, node_expr, largest, valuation_tree, valuation_exprs, valuation_values}
use Rattle.kc_rules_model.specs.Rule.{conditions}
use Rattle.kc_evaluation.proofs.tristate_rules.largest.Given as goal

abbrev pub invariant-loop-id : goal.invariant-loop-id
invariant-loop-id l =
    tri_or l.most (largest (conditions (valuation_tree l.under) (valuation_values l.under) (map (node_expr (valuation_exprs l.under)) (drop l.id-index l.ids))))
    ≡ largest (conditions (valuation_tree l.under) (valuation_values l.under) (map (node_expr (valuation_exprs l.under)) l.ids))

use Rattle.kc_evaluation.proofs.Common.{◌≡◌, map, drop, valuation_tree, valuation_exprs, valuation_values}
use Rattle.kc_tree.specs.between.Views.{member_default_view}
use Rattle.kc_dependencies.specs.checker.StoredRules.{default_member_of}
use Rattle.kc_evaluation.proofs.choices.member_by_default.Given as goal

abbrev pub invariant-loop-default : goal.invariant-loop-default
invariant-loop-default l =
    default_member_of (valuation_tree l.under) (valuation_values l.under)
    (map (member_default_view (valuation_exprs l.under)) (drop l.default-index l.defaults)) ≡ default_member_of (valuation_tree l.under)
    (valuation_values l.under) (map (member_default_view (valuation_exprs l.under)) l.defaults)

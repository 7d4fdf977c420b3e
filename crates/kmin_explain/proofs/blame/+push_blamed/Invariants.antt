use Rattle.kmin_explain.proofs.Common.{◌≡◌, ◌≤◌, ◌++◌, node_expr, valuation_tree, valuation_exprs, valuation_values, environment, blamed_in_reverse}
use Rattle.kmin_explain.proofs.blame.+push_blamed.Given as goal

abbrev pub decreases-push_blamed : goal.decreases-push_blamed
decreases-push_blamed l = l.id

abbrev pub invariant-down : goal.invariant-down
invariant-down l = record {
  below : l.at ≤ l.fn.id;
  symbols : l.found.items ++ blamed_in_reverse (valuation_tree l.under) (environment (valuation_tree l.under) (valuation_values l.under)) l.limit.is_above l.limit.limit (node_expr (valuation_exprs l.under) l.at)
      ≡ l.fn.found.items ++ blamed_in_reverse (valuation_tree l.under) (environment (valuation_tree l.under) (valuation_values l.under)) l.fn.bound.is_above l.fn.bound.limit (node_expr (valuation_exprs l.under) l.fn.id);
}

abbrev pub decreases-down : goal.decreases-down
decreases-down l = l.at

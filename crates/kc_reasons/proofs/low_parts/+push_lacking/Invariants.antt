use Rattle.std.proofs.Common.{◌≤◌}
use Rattle.kc_reasons.proofs.Common.{◌≡◌, ◌++◌, node_expr, valuation_tree, valuation_exprs, valuation_values, environment, parts_view, IsThere, All, lacking_in_reverse}
use Rattle.kc_reasons.proofs.low_parts.+push_lacking.Given as goal

abbrev pub decreases-push_lacking : goal.decreases-push_lacking
decreases-push_lacking l = l.id

abbrev pub invariant-down : goal.invariant-down
invariant-down l = record {
  below : l.at ≤ l.fn.id;
  parts : parts_view (valuation_exprs l.under) l.found.items ++ lacking_in_reverse (environment (valuation_tree l.under) (valuation_values l.under)) l.least (node_expr (valuation_exprs l.under) l.at)
      ≡ parts_view (valuation_exprs l.under) l.fn.found.items ++ lacking_in_reverse (environment (valuation_tree l.under) (valuation_values l.under)) l.fn.wanted (node_expr (valuation_exprs l.under) l.fn.id);
  held : All (IsThere (valuation_exprs l.under)) l.fn.found.items → All (IsThere (valuation_exprs l.under)) l.found.items;
}

abbrev pub decreases-down : goal.decreases-down
decreases-down l = l.at

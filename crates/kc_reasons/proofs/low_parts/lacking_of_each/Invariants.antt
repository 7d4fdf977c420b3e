use Rattle.kc_reasons.proofs.Common.{◌≡◌, ◌++◌, map, drop, node_expr, valuation_tree, valuation_exprs, valuation_values, environment, lacking, alternatives_view}
use Rattle.kc_reasons.specs.between.Parts.{AreThere}
use Rattle.kc_reasons.proofs.low_parts.lacking_of_each.Given as goal

abbrev pub invariant-loop-id : goal.invariant-loop-id
invariant-loop-id l = record {
  lists : alternatives_view (valuation_exprs l.under) l.found.items
      ++ map (lacking (environment (valuation_tree l.under) (valuation_values l.under)) l.wanted) (map (node_expr (valuation_exprs l.under)) (drop l.id-index l.ids))
      ≡ map (lacking (environment (valuation_tree l.under) (valuation_values l.under)) l.wanted) (map (node_expr (valuation_exprs l.under)) l.ids);
  there : AreThere (valuation_exprs l.under) l.found.items;
}

use Rattle.kc_located_reasons.proofs.Common.{◌≡◌, ◌++◌, drop, valuation_tree, valuation_exprs, valuation_values, environment, all_located, located_lacking, located_parts_view, IsPartThere}
use Rattle.std.specs.List.{All}
use Rattle.kc_located_reasons.proofs.located_parts.located_lacking.Given as goal

abbrev pub invariant-loop-part : goal.invariant-loop-part
invariant-loop-part l = record {
  parts : located_parts_view (valuation_exprs l.under) l.found.items
      ++ located_lacking (environment (valuation_tree l.under) (valuation_values l.under)) l.wanted (all_located (valuation_exprs l.under) (drop l.part-index l.parts))
      ≡ located_lacking (environment (valuation_tree l.under) (valuation_values l.under)) l.wanted (all_located (valuation_exprs l.under) l.parts);
  there : All (IsPartThere (valuation_exprs l.under)) l.found.items;
}

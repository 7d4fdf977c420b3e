use Rattle.kc_located_reasons.proofs.Common.{◌≡◌, ◌++◌, map, drop, valuation_tree, valuation_exprs, valuation_values, environment, each_located, located_lacking}
use Rattle.kc_located_reasons.specs.between.PartsView.{located_alternatives_view, ArePartsThere}
use Rattle.kc_located_reasons.proofs.located_parts.located_lacking_of_each.Given as goal

abbrev pub invariant-loop-list : goal.invariant-loop-list
invariant-loop-list l = record {
  lists : located_alternatives_view (valuation_exprs l.under) l.found.items
      ++ map (located_lacking (environment (valuation_tree l.under) (valuation_values l.under)) l.wanted) (each_located (valuation_exprs l.under) (drop l.list-index l.lists))
      ≡ map (located_lacking (environment (valuation_tree l.under) (valuation_values l.under)) l.wanted) (each_located (valuation_exprs l.under) l.lists);
  there : ArePartsThere (valuation_exprs l.under) l.found.items;
}

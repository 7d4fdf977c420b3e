use Rattle.kmin_explain.proofs.Common.{◌≡◌, length, drop, flat_map, valuation_tree, valuation_exprs, valuation_values, environment, parts_view, each_once_after, blamed_of, AreMarked}
use Rattle.kmin_explain.proofs.blame.add_parts.Given as goal

abbrev pub invariant-loop-part : goal.invariant-loop-part
invariant-loop-part l = record {
  marks : AreMarked l.seen;
  many : length l.seen.is_found.items ≡ length (valuation_tree l.under).symbols;
  found : each_once_after l.seen.found.items (flat_map (blamed_of (valuation_tree l.under) (environment (valuation_tree l.under) (valuation_values l.under))) (parts_view (valuation_exprs l.under) (drop l.part-index l.parts)))
      ≡ each_once_after l.fn.seen.found.items (flat_map (blamed_of (valuation_tree l.under) (environment (valuation_tree l.under) (valuation_values l.under))) (parts_view (valuation_exprs l.under) l.parts));
}

use Rattle.kmin_explain.proofs.Common.{◌≡◌, length, drop, valuation_tree, valuation_exprs, valuation_values, environment, alternatives_view, each_once_after, blamed_in, AreMarked}
use Rattle.kmin_explain.proofs.blame.add_all_blamed.Given as goal

abbrev pub invariant-loop-parts : goal.invariant-loop-parts
invariant-loop-parts l = record {
  marks : AreMarked l.seen;
  many : length l.seen.is_found.items ≡ length (valuation_tree l.under).symbols;
  found : each_once_after l.seen.found.items (blamed_in (valuation_tree l.under) (environment (valuation_tree l.under) (valuation_values l.under)) (alternatives_view (valuation_exprs l.under) (drop l.parts-index l.alternatives)))
      ≡ each_once_after l.fn.seen.found.items (blamed_in (valuation_tree l.under) (environment (valuation_tree l.under) (valuation_values l.under)) (alternatives_view (valuation_exprs l.under) l.alternatives));
}

use Rattle.std.proofs.Common.{◌-◌}
use Rattle.kmin_explain.proofs.Common.{◌≡◌, ◌≤◌, ◌++◌, List, length, take, flat_map, Group, LineMeaning, tree_in, each_once, next_of, config_of, sources_model, AreMarked}
use Rattle.kmin_explain.proofs.deep.deep_symbols.Given as goal

abbrev pub invariant-loop-i : goal.invariant-loop-i
invariant-loop-i l = record {
  marks : AreMarked l.seen;
  many : length l.seen.is_found.items ≡ length (tree_in (config_of l.by)).symbols;
  within : l.i ≤ length l.seen.found.items;
  deep : (read : List Group) (meanings : List (List LineMeaning))
      → l.seen.found.items ≡ each_once (l.symbols ++ flat_map (next_of (sources_model l.by read meanings)) (take l.i l.seen.found.items));
}

abbrev pub decreases-loop-i : goal.decreases-loop-i
decreases-loop-i l = length (tree_in (config_of l.by)).symbols - l.i

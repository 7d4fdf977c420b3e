use Rattle.kmin_explain.proofs.Common.{◌≡◌, ℕ, List, length, map, drop, Bor, filter_map, prefix_bytes, symbol_meant, each_once_after, AreMarked}
use Rattle.kmin_explain.specs.Names.{symbols_named}
use Rattle.kmin_explain.proofs.names.named_symbols.Given as goal

abbrev pub invariant-loop-name : goal.invariant-loop-name
invariant-loop-name l = record {
  marks : AreMarked l.found;
  many : length l.found.is_found.items ≡ length l.tree.tree.symbols;
  found : each_once_after l.found.found.items (filter_map (symbol_meant l.tree.tree (prefix_bytes l.prefix)) (map (λ (name : Bor (List ℕ)). name.now) (drop l.name-index l.name-items)))
      ≡ symbols_named l.tree.tree (prefix_bytes l.prefix) (map (λ (name : Bor (List ℕ)). name.now) l.name-items);
}

use Rattle.kmin_explain.proofs.Common.{◌≡◌, length, drop, each_once_after, AreMarked}
use Rattle.kmin_explain.proofs.each_once.SymbolsOnce.add_all.Given as goal

abbrev pub invariant-loop-s : goal.invariant-loop-s
invariant-loop-s l = record {
  marks : AreMarked l.self;
  many : length l.self.is_found.items ≡ length l.fn.self.is_found.items;
  found : each_once_after l.self.found.items (drop l.s-index l.symbols) ≡ each_once_after l.fn.self.found.items l.symbols;
}

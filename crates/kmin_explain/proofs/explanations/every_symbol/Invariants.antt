use Rattle.kmin_explain.proofs.Common.{◌≡◌, range_with_len}
use Rattle.kmin_explain.proofs.explanations.every_symbol.Given as goal

abbrev pub invariant-loop-s : goal.invariant-loop-s
invariant-loop-s l = l.symbols.items ≡ range_with_len 0 l.s

use Rattle.kmin_explain.proofs.Common.{◌≡◌, range_with_len}
use Rattle.kmin_explain.proofs.symbol_reasons.all_numbers.Given as goal

abbrev pub invariant-loop-number : goal.invariant-loop-number
invariant-loop-number l = l.found.items ≡ range_with_len 0 l.number

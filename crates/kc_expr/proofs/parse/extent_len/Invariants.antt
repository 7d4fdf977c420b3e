use Rattle.kc_expr.proofs.Common.{◌≡◌, ◌+◌, ◌-◌, length, drop, extent, lexemes_of}
use Rattle.kc_expr.proofs.parse.extent_len.Given as goal

abbrev pub invariant-loop-i : goal.invariant-loop-i
invariant-loop-i l = length (extent (lexemes_of l.tokens)) + 1 ≡ l.i + length (extent (drop (l.i - 1) (lexemes_of l.tokens)))

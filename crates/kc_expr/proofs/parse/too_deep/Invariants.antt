use Rattle.kc_expr.proofs.Common.{◌≡◌, ◌-◌, ◌≤◌, length, drop, past_depth_limit, lexemes_of}
use Rattle.kc_expr.proofs.parse.too_deep.Given as goal

abbrev pub invariant-loop-symbol : goal.invariant-loop-symbol
invariant-loop-symbol l = record {
  within : l.symbol ≤ length l.tokens;
  same : past_depth_limit (drop l.symbol (lexemes_of l.tokens)) ≡ past_depth_limit (drop l.at (lexemes_of l.tokens));
}

abbrev pub decreases-loop-symbol : goal.decreases-loop-symbol
decreases-loop-symbol l = length l.tokens - l.symbol

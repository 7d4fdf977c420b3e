use Rattle.std.proofs.Common.{◌≡◌, ◌+◌, drop}
use Rattle.kc_macro_forms.specs.checker.SignificantTokens.{trivia_count}
use Rattle.kc_macro_forms.proofs.significant_tokens.trivia_count.Given as goal

-- the first `i` tokens of the line are trivia
abbrev pub invariant-tokens : goal.invariant-tokens
invariant-tokens l = trivia_count l.tokens ≡ l.i + trivia_count (drop l.i l.tokens)

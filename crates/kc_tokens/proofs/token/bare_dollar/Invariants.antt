use Rattle.kc_tokens.proofs.Common.{◌≡◌, drop, false, further, bare_dollar}
use Rattle.kc_tokens.proofs.token.bare_dollar.Given as goal

abbrev pub invariant-loop-i : goal.invariant-loop-i
invariant-loop-i l = further l.i (bare_dollar l.escaped (drop l.i l.text)) ≡ bare_dollar false l.fn.text

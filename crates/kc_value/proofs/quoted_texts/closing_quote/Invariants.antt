use Rattle.kc_value.proofs.Common.{◌≡◌, drop, false, closing}
use Rattle.kc_value.proofs.ClosingSteps.{further}
use Rattle.kc_value.proofs.quoted_texts.closing_quote.Given as goal

abbrev pub invariant-loop-i : goal.invariant-loop-i
invariant-loop-i l = further l.i (closing l.quote l.escaped (drop l.i l.bytes)) ≡ closing l.quote false l.fn.bytes

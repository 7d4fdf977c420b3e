use Rattle.kc_minimal.proofs.Common.{◌≡◌, None, drop, last_line}
use Rattle.kc_minimal.proofs.choice_places.last_line.Given as goal

abbrev pub invariant-loop-i : goal.invariant-loop-i
invariant-loop-i l = last_line l.s (drop l.i l.lines) ≡ None

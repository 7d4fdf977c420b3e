use Rattle.kc_config.proofs.Common.{◌≡◌, true, None, drop, last_y}
use Rattle.kc_config.proofs.missed_assignments.last_member.Given as goal

abbrev pub invariant-loop-i : goal.invariant-loop-i
invariant-loop-i l = last_y (λ m. true) (drop l.i l.lines) ≡ None

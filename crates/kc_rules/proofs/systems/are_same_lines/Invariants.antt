use Rattle.kc_rules.proofs.Common.{◌≡◌, drop, same_lines}
use Rattle.kc_rules.proofs.systems.are_same_lines.Given as goal

abbrev pub invariant-loop-i : goal.invariant-loop-i
invariant-loop-i l = same_lines (drop l.i l.a) (drop l.i l.b) ≡ same_lines l.a l.b

use Rattle.kc_conditions.proofs.Common.{◌≡◌, drop, first_prompt}
use Rattle.kc_conditions.proofs.group_walk.first_condition.Given as goal

abbrev pub invariant-loop-i : goal.invariant-loop-i
invariant-loop-i l = first_prompt l.lines l.conditions ≡ first_prompt (drop l.i l.lines) (drop l.i l.conditions)

use Rattle.kc_dotconfig.proofs.Common.{◌≡◌, joined}
use Rattle.kc_dotconfig.proofs.gathered_lines.with_lines.Given as goal

abbrev pub invariant-loop-unit : goal.invariant-loop-unit
invariant-loop-unit l = l.map.entries ≡ joined l.fn.assigned l.yielded

use Rattle.kc_evaluation.proofs.Common.{◌≡◌, drop, is_listed}
use Rattle.kc_evaluation.proofs.member_lines.is_listed.Given as goal

abbrev pub invariant-loop-line : goal.invariant-loop-line
invariant-loop-line l = is_listed (drop l.line-index l.lines) l.s ≡ is_listed l.lines l.s

use Rattle.std.proofs.Common.{not, filter}
use Rattle.kc_config.proofs.Common.{◌≡◌, take, MemberLine, is_listed}
use Rattle.kc_config.proofs.merged_values.merged_lines.Given as goal

abbrev pub invariant-loop-line : goal.invariant-loop-line
invariant-loop-line l = l.lines.items ≡ filter (λ (m : MemberLine). not (is_listed l.later m.member)) (take l.line-index l.earlier)

use Rattle.std.proofs.Common.{◌≡◌, map, take}
use Rattle.kc_rules_model.specs.declared.values.MemberLine.{MemberLine}
use Rattle.kc_evaluation.proofs.member_lines.listed_numbers.Given as goal

abbrev pub invariant-loop-line : goal.invariant-loop-line
invariant-loop-line l = l.numbers.items ≡ map (λ (k : MemberLine). k.member) (take l.line-index l.lines)

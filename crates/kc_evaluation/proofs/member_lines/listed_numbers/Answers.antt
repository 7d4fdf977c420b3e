use Rattle.kc_evaluation.proofs.Common.{ap, map, ◌∙◌, arith, MemberLine}
use Rattle.std.proofs.lemmas.List.{take_all}
use Rattle.std.proofs.lemmas.List.Sorted.{IsNonDecreasingBy-from_sort}
use Rattle.kc_evaluation.proofs.AssignedMembers.{sorted_listed}
use Rattle.kc_evaluation.proofs.member_lines.listed_numbers.Goals as goal

pub returns-clause-sorted : goal.returns-clause-sorted
returns-clause-sorted c = IsNonDecreasingBy-from_sort (λ x. x) c.sort_unstable.new.self.items c.sort_unstable.ensures.sorted

pub returns-clause-same : goal.returns-clause-same
returns-clause-same c = λ s.
    sorted_listed c.args.lines.now c.loop-line.numbers.items c.sort_unstable.new.self.items s
    (c.loop-line.invariant ∙ ap (map (λ (l : MemberLine). l.member)) (take_all c.loop-line.line-index c.args.lines.now (omega arith)))
    c.sort_unstable.ensures.permutation

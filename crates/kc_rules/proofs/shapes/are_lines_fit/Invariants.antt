use Rattle.std.proofs.Common.{slice_get}
use Rattle.std.specs.List.{list_all}
use Rattle.kc_rules.proofs.Common.{◌≡◌, drop, MemberLine, is_member}
use Rattle.kc_rules.proofs.shapes.are_lines_fit.Given as goal

abbrev pub invariant-loop-line : goal.invariant-loop-line
invariant-loop-line l =
    list_all (λ (k : MemberLine). is_member (slice_get l.tree.tree.choices l.c) k.member) (drop l.line-index l.lines)
    ≡ list_all (λ (k : MemberLine). is_member (slice_get l.tree.tree.choices l.c) k.member) l.lines

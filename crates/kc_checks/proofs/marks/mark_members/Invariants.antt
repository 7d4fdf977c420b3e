use Rattle.kc_checks.proofs.Common.{take, WereMarked}
use Rattle.kc_checks.proofs.marks.mark_members.Given as goal

abbrev pub invariant-loop-member : goal.invariant-loop-member
invariant-loop-member l = WereMarked l.initial.marks.items (take l.member-index l.members) l.mark l.marks.items

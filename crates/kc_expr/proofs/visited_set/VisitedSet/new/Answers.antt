use Rattle.kc_expr.proofs.Common.{◌≡◌, ◌<◌, replicate, arith, common_steps, All-replicate}
use Rattle.kc_expr.proofs.VisitLemmas.{none_stamped}
use Rattle.kc_expr.proofs.visited_set.VisitedSet.new.Goals as goal

pub returns-clause-none : goal.returns-clause-none
returns-clause-none c =
    let zeros : c.in_ok-vec.field-0.items ≡ replicate c.args.count 0 = c.in_ok-vec.ensures.items_if_clones_equal (λ y h. h) in
    none_stamped 1 c.in_ok-vec.field-0.items (rw zeros (All-replicate (λ s. s < 1) c.args.count 0 (omega arith)))

pub invariant_of-result : goal.invariant_of-result
invariant_of-result c = grind (arith, common_steps)

pub returns-clause-room : goal.returns-clause-room
returns-clause-room c = grind (arith, common_steps)

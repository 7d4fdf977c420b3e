use Rattle.kc_expr.proofs.Common.{◌≡◌, ◌<◌, replicate, arith, common_steps, All-replicate}
use Rattle.kc_expr.proofs.VisitLemmas.{none_stamped}
use Rattle.kc_expr.proofs.visited_set.VisitedSet.begin.Goals.{then-self, else-self}
use Rattle.kc_expr.proofs.visited_set.VisitedSet.begin.Goals as goal

pub returns-clause-none : goal.returns-clause-none
returns-clause-none c = none_stamped _ _ (elim c.if-self.branch [
  | then-self w ↦
      let zeros : w.fill.new.self.items ≡ replicate (c.self.inside.stamps.len) 0 = w.fill.ensures.items (λ y h. h) in
      rw (w.self-inside-is, zeros) (All-replicate (λ s. s < 1) (c.self.inside.stamps.len) 0 (omega arith))
  | else-self w ↦ rw w.self-inside-is (λ k d l. omega (arith, c.self.invariant k d l))
])

pub returns-clause-room : goal.returns-clause-room
returns-clause-room c = grind (arith, common_steps)

pub invariant_of-self : goal.invariant_of-self
invariant_of-self c = grind (arith, common_steps)

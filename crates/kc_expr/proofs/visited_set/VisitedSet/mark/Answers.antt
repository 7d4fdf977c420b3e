use Rattle.kc_expr.proofs.Common.{true, ap, ◌∙◌, arith, common_steps, slice_set}
use Rattle.kc_expr.proofs.VisitLemmas.{stamped_set}
use Rattle.kc_expr.proofs.visited_set.VisitedSet.mark.Goals as goal

pub returns : goal.returns
returns c = record { marked = stamped_set c.self.inside.turn c.self.inside.stamps.items c.args.index ∙ ap (λ w. slice_set w c.args.index true) c.self.view_is }

pub invariant_of-self : goal.invariant_of-self
invariant_of-self c = grind (arith, common_steps)

pub index_mut-requires : goal.index_mut-requires
index_mut-requires c = grind (arith, common_steps)

use Rattle.kc_conditions.proofs.Common.{subst, ℕ, Option, arith, common_steps, elements, Conjoins}
use Rattle.kc_conditions.proofs.ConjunctionLemmas.{joined}
use Rattle.kc_conditions.proofs.conditions.join_optional.Goals as goal

pub returns-in_ok-join-in-Some-Some-clause-ok : goal.returns-in_ok-join-in-Some-Some-clause-ok
returns-in_ok-join-in-Some-Some-clause-ok c = λ es h.
    rw c.in-Some-Some.is-1 (joined c.args.arena.now c.join.new.self c.in-Some-Some.a c.in-Some-Some.b c.in_ok-join-in-Some-Some.field-0 es
    c.in_ok-join-in-Some-Some.ensures.ok (subst (λ (o : Option ℕ). Conjoins c.args.arena.now o es) c.in-Some-Some.is-0 h))

pub returns-in-Some-None-clause-grows : goal.returns-in-Some-None-clause-grows
returns-in-Some-None-clause-grows c = grind (arith, common_steps)

pub returns-in-None-default-clause-ok : goal.returns-in-None-default-clause-ok
returns-in-None-default-clause-ok c = grind (arith, common_steps)

pub returns-in-None-default-clause-grows : goal.returns-in-None-default-clause-grows
returns-in-None-default-clause-grows c = grind (arith, elements)

pub join-requires-clause-right : goal.join-requires-clause-right
join-requires-clause-right c = grind (arith, common_steps)

pub join-requires-clause-left : goal.join-requires-clause-left
join-requires-clause-left c = grind (arith, common_steps)

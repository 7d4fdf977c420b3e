use Rattle.kc_conditions.proofs.Common.{arith, common_steps, elements, grows_on}
use Rattle.kc_conditions.proofs.Growth.{entry_joined}
use Rattle.kc_conditions.proofs.conditions.entry_conditions.Goals as goal

pub returns-clause-joined : goal.returns-clause-joined
returns-clause-joined c =
    entry_joined c.args.arena.now c.join_all.new.arena c.join_all-2.new.arena c.join_optional.new.arena c.args.lines.now c.args.enclosing.now.dependencies
    c.args.enclosing.now.visibles
    c.in_ok-dependencies.dependencies c.in_ok-visibles.visibles c.in_ok-entry.field-0 c.join_all.ensures.grows c.join_all-2.ensures.grows
    c.join_optional.ensures.grows c.requires.held c.requires.visibles
    c.in_ok-dependencies.ensures.ok c.in_ok-visibles.ensures.ok c.in_ok-entry.ensures.ok

pub returns-in_err-visibles-clause-grows : goal.returns-in_err-visibles-clause-grows
returns-in_err-visibles-clause-grows c =
    grows_on c.args.arena.now c.join_all.new.arena c.join_all-2.new.arena c.join_all.ensures.grows c.join_all-2.ensures.grows

pub returns-in_err-entry-clause-grows : goal.returns-in_err-entry-clause-grows
returns-in_err-entry-clause-grows c =
    grows_on c.args.arena.now c.join_all.new.arena c.join_optional.new.arena c.join_all.ensures.grows
    (grows_on c.join_all.new.arena c.join_all-2.new.arena c.join_optional.new.arena c.join_all-2.ensures.grows c.join_optional.ensures.grows)

pub returns-clause-grows : goal.returns-clause-grows
returns-clause-grows c =
    grows_on c.args.arena.now c.join_all.new.arena c.join_optional.new.arena c.join_all.ensures.grows
    (grows_on c.join_all.new.arena c.join_all-2.new.arena c.join_optional.new.arena c.join_all-2.ensures.grows c.join_optional.ensures.grows)

pub join_optional-requires-clause-more : goal.join_optional-requires-clause-more
join_optional-requires-clause-more c = grind (arith, common_steps)

pub join_all-requires-2-clause-all : goal.join_all-requires-2-clause-all
join_all-requires-2-clause-all c = grind (arith, common_steps)

pub join_all-requires-2-clause-held : goal.join_all-requires-2-clause-held
join_all-requires-2-clause-held c = grind (arith, elements)

pub join_optional-requires-clause-all : goal.join_optional-requires-clause-all
join_optional-requires-clause-all c = grind (arith, common_steps)

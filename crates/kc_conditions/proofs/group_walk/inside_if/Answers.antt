use Rattle.kc_conditions.proofs.WalkSteps.{if_inside}
use Rattle.kc_conditions.proofs.group_walk.inside_if.Goals as goal

pub returns-clause-represents : goal.returns-clause-represents
returns-clause-represents c = λ language texts yes m opened what a.
    if_inside language c.args.arena.now c.join_optional.new.arena texts yes c.args.condition c.in_ok-dependencies.dependencies m c.args.enclosing.now opened
    c.join_optional.ensures.grows what a c.in_ok-dependencies.ensures.ok

use Rattle.kc_conditions.proofs.Common.{sym, ◌∙◌, grows_same}
use Rattle.kc_conditions.proofs.WalkSteps.{choice_inside, through_inside}
use Rattle.kc_conditions.proofs.group_walk.inside_choice.Goals as goal

pub returns-then-is_linux_6_12-clause-represents : goal.returns-then-is_linux_6_12-clause-represents
returns-then-is_linux_6_12-clause-represents c = λ texts yes m opened e j p n.
    through_inside c.args.language c.args.arena.now texts yes m c.args.entry.now opened e (sym c.is_linux_6_12.ensures ∙ c.if-is_linux_6_12.true) j

pub returns-then-is_linux_6_12-clause-grows : goal.returns-then-is_linux_6_12-clause-grows
returns-then-is_linux_6_12-clause-grows c = grows_same c.args.arena.now

pub returns-clause-represents : goal.returns-clause-represents
returns-clause-represents c = λ texts yes m opened e j p n.
    choice_inside c.args.language c.shown_condition.new.arena texts yes c.in_ok-shown.shown m opened e
    (sym c.is_linux_6_12.ensures ∙ c.if-is_linux_6_12.false) (c.in_ok-shown.ensures.represents _ p n)

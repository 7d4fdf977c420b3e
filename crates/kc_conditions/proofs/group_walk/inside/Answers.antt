use Rattle.kc_conditions.proofs.Common.{◌≡◌, refl, arith, common_steps, node_expr, of_head, choice, condition, grows_same}
use Rattle.kc_conditions.proofs.WalkSteps.{menu_inside, opens_none, source_inside}
use Rattle.kc_conditions.proofs.group_walk.inside.Goals as goal

pub returns-in_ok-inside_choice-in-Choice-clause-represents : goal.returns-in_ok-inside_choice-in-Choice-clause-represents
returns-in_ok-inside_choice-in-Choice-clause-represents c = λ names texts y m opened what a j p s n.
    let e : m.head ≡ of_head choice = rw c.in-Choice.is at what in
    (rw e refl, c.in_ok-inside_choice-in-Choice.ensures.represents texts y m opened e j p n)

pub returns-in_ok-inside_if-in-Condition-clause-represents : goal.returns-in_ok-inside_if-in-Condition-clause-represents
returns-in_ok-inside_if-in-Condition-clause-represents c = λ names texts y m opened what a j p s n.
    let w = rw c.in-Condition.is at what in
    let e : m.head ≡ of_head (condition (node_expr c.args.arena.now c.in-Condition.condition)) = w.1 in
    (rw e refl, c.in_ok-inside_if-in-Condition.ensures.represents c.args.language texts y m opened e a)

pub returns-in-Menu-clause-represents : goal.returns-in-Menu-clause-represents
returns-in-Menu-clause-represents c = λ names texts y m opened what a j p s n.
    let w = rw c.in-Menu.is at what in
    (rw w.2 refl, menu_inside _ c.args.arena.now texts y c.in-Menu.title w.0 m c.args.entry.now opened w.2 w.1 j s)

pub returns-in-Source-clause-represents : goal.returns-in-Source-clause-represents
returns-in-Source-clause-represents c = λ names texts y m opened what a j p s n.
    let w = rw c.in-Source.is at what in
    (rw w.2 refl, source_inside _ c.args.arena.now texts y w.0 m c.args.enclosing.now opened w.2 a)

pub returns-in-Menu-clause-grows : goal.returns-in-Menu-clause-grows
returns-in-Menu-clause-grows c = grows_same c.args.arena.now

pub returns-in-Source-clause-grows : goal.returns-in-Source-clause-grows
returns-in-Source-clause-grows c = grows_same c.args.arena.now

pub returns-in_default-clause-grows : goal.returns-in_default-clause-grows
returns-in_default-clause-grows c = grows_same c.args.arena.now

pub returns-in_default-clause-represents : goal.returns-in_default-clause-represents
returns-in_default-clause-represents c = λ names texts y m opened what a j p s n.
    opens_none c.args.arena.now names texts c.args.head.now m.head what c.in_default.not-Choice c.in_default.not-Menu
    c.in_default.not-Condition c.in_default.not-Source

pub inside_if-requires-clause-condition : goal.inside_if-requires-clause-condition
inside_if-requires-clause-condition c = grind (arith, common_steps)

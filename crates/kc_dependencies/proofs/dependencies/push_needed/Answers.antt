use Rattle.kc_dependencies.proofs.Common.{ap, ◌∙◌, arith, common_steps, elements, on_ok_weaker, symbol_view, choice_view, has}
use Rattle.kc_dependencies.proofs.Needs.{needed_symbol, needed_choice}
use Rattle.kc_dependencies.proofs.dependencies.push_needed.Goals as goal

pub returns-in-Symbol-clause-units : goal.returns-in-Symbol-clause-units
returns-in-Symbol-clause-units c = λ d.
    on_ok_weaker c.push_symbol_needs.result (λ e. e ∙ ap (λ us. has us d)
    (needed_symbol c.args.tree.now.tree c.args.u c.in-Symbol.s (symbol_view c.args.tree.now.exprs c.symbol.result) c.in-Symbol.ensures.unit
    c.symbol.ensures.symbol)) (c.push_symbol_needs.ensures.units d)

pub returns-in-Choice-clause-units : goal.returns-in-Choice-clause-units
returns-in-Choice-clause-units c = λ d.
    on_ok_weaker c.push_choice_needs.result (λ e. e ∙ ap (λ us. has us d)
    (needed_choice c.args.tree.now.tree c.args.u c.in-Choice.c (choice_view c.args.tree.now.exprs c.choice.result) c.in-Choice.ensures.unit
    c.choice.ensures.choice)) (c.push_choice_needs.ensures.units d)

pub returns-in-Symbol-clause-room : goal.returns-in-Symbol-clause-room
returns-in-Symbol-clause-room c = grind (arith, common_steps)

pub symbol-requires : goal.symbol-requires
symbol-requires c = record { there = grind (arith, elements) }

pub push_choice_needs-requires-clause-fits : goal.push_choice_needs-requires-clause-fits
push_choice_needs-requires-clause-fits c = grind (arith, elements)

pub returns-in-Choice-clause-below : goal.returns-in-Choice-clause-below
returns-in-Choice-clause-below c = grind (arith, common_steps)

pub returns-in-Choice-clause-room : goal.returns-in-Choice-clause-room
returns-in-Choice-clause-room c = grind (arith, common_steps)

pub choice-requires : goal.choice-requires
choice-requires c = record { there = grind (arith, elements) }

pub returns-in-Symbol-clause-below : goal.returns-in-Symbol-clause-below
returns-in-Symbol-clause-below c = grind (arith, common_steps)

use Rattle.kc_dependencies.proofs.Common.{ap, arith, common_steps, elements, on_ok_weaker, passes_some_name, has, is_of}
use Rattle.kc_dependencies.proofs.Needs.{names_needed, choice_needed}
use Rattle.kc_dependencies.proofs.dependencies.push_choice_needs.Goals as goal

pub returns-clause-units : goal.returns-clause-units
returns-clause-units c = λ d.
    on_ok_weaker c.push_units.result
    (choice_needed c.args.tree.now.tree c.args.tree.now.exprs d c.args.choice.now _ _ _ _ (ap (λ us. has us d) c.requires.begun.no_units)
    (ap (passes_some_name c.args.tree.now.exprs (is_of c.args.tree.now.tree d)) c.requires.begun.no_names)
    (names_needed c.args.tree.now.exprs (is_of c.args.tree.now.tree d) c.as_slice.result.now c.push_names.new.found.names.items _ c.as_slice.ensures.value
    (c.in_ok-push_names.ensures.names (is_of c.args.tree.now.tree d))))
    (c.push_units.ensures.units d)

pub returns-clause-room : goal.returns-clause-room
returns-clause-room c = grind (arith, common_steps)

pub returns-clause-below : goal.returns-clause-below
returns-clause-below c = grind (arith, elements)

pub push_names-requires-clause-fits : goal.push_names-requires-clause-fits
push_names-requires-clause-fits c = grind (arith, elements)

use Rattle.kc_dependencies.proofs.Common.{ap, arith, common_steps, elements, on_ok_weaker, passes_some_name, has, is_of}
use Rattle.kc_dependencies.proofs.Needs.{names_needed, symbol_needed}
use Rattle.kc_dependencies.proofs.dependencies.push_symbol_needs.Goals as goal

pub returns-clause-units : goal.returns-clause-units
returns-clause-units c = λ d.
    on_ok_weaker c.push_units.result
    (symbol_needed c.args.tree.now.tree c.args.tree.now.exprs d c.args.symbol.now c.args.modules.now c.requires.fits.bounds c.requires.modules _ _ _ _ _ _ _
    (ap (λ us. has us d) c.requires.begun.no_units) (c.in_ok-push_reverse_dependencies.ensures.units d) (c.in_ok-push_reverse_dependencies-2.ensures.units d)
    (c.in_ok-push_modules.ensures.units d)
    (ap (passes_some_name c.args.tree.now.exprs (is_of c.args.tree.now.tree d)) c.requires.begun.no_names)
    (names_needed c.args.tree.now.exprs (is_of c.args.tree.now.tree d) c.as_slice.result.now c.push_names.new.found.names.items _ c.as_slice.ensures.value
    (c.in_ok-push_names.ensures.names (is_of c.args.tree.now.tree d))))
    (c.push_units.ensures.units d)

pub returns-clause-room : goal.returns-clause-room
returns-clause-room c = on_ok_weaker c.push_units.result (λ e. c.in_ok-push_names.ensures.found.room) (c.push_units.ensures.units 0)

pub push_reverse_dependencies-requires : goal.push_reverse_dependencies-requires
push_reverse_dependencies-requires c = record { fits = grind (arith, elements) }

pub push_reverse_dependencies-requires-2 : goal.push_reverse_dependencies-requires-2
push_reverse_dependencies-requires-2 c = grind (arith, common_steps)

pub push_units-requires : goal.push_units-requires
push_units-requires c = grind (arith, common_steps)

pub returns-clause-below : goal.returns-clause-below
returns-clause-below c = grind (arith, common_steps)

pub push_modules-requires : goal.push_modules-requires
push_modules-requires c = grind (arith, common_steps)

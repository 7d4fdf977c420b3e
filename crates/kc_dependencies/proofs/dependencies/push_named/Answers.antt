use Rattle.kc_dependencies.proofs.Common.{◌||◌, ap, ◌∙◌, option_map, on_ok_weaker, unit_of, has, is_at}
use Rattle.kc_dependencies.proofs.Needs.{symbol_of_name_number}
use Rattle.kc_dependencies.proofs.dependencies.push_named.Goals as goal

pub returns-clause-units : goal.returns-clause-units
returns-clause-units c =
    λ d. on_ok_weaker c.push_unit.result (λ e. e ∙ ap (λ o. has c.args.units.now.items d || is_at d (option_map (unit_of c.args.tree.now.tree) o))
    (c.symbol_at-symbol.ensures.symbol ∙ symbol_of_name_number c.args.tree.now.tree c.requires.consistent c.args.tree.now.exprs.names c.args.name))
    (c.push_unit.ensures.units d)

use Rattle.kc_dependencies.proofs.Common.{◌∙◌, sym, arith, common_steps, modules}
use Rattle.kc_dependencies.proofs.ModulesLemmas.{found_as_named}
use Rattle.kc_dependencies.proofs.modules.modules_of.Goals as goal

pub returns-clause-modules : goal.returns-clause-modules
returns-clause-modules c =
    let t = c.args.tree.now in
    let found = rw c.arena.ensures.arena at c.find.ensures in
    found_as_named t.tree t.exprs.names c.in_ok-name.name modules c.symbol_at.result (sym found ∙ c.in_ok-name.was) c.symbol_at.ensures.symbol

pub returns-in_err-name-clause-there : goal.returns-in_err-name-clause-there
returns-in_err-name-clause-there c = grind (arith, common_steps)

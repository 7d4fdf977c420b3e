use Rattle.kc_tree.proofs.Common.{◌∙◌, sym, ◌≡◌, Some, arith, common_steps, index_of_name, tree_from_rows}
use Rattle.kc_tree.proofs.SymbolNames.{reported_by_place}
use Rattle.kc_tree.proofs.tree.Tree.find.Goals as goal

pub returns-clause-symbol : goal.returns-clause-symbol
returns-clause-symbol c =
    let p = c.self.inside in
    let e : index_of_name c.args.name.now p.arena.names ≡ Some c.in_ok-id.id = sym c.find.ensures ∙ c.in_ok-id.was in
    rw (← c.self.view_is) (rw (← c.self.view_is) at c.symbol_at.ensures.symbol
    ∙ reported_by_place (tree_from_rows p) c.args.name.now p.arena.names c.in_ok-id.id e)

pub returns-clause-there : goal.returns-clause-there
returns-clause-there c = c.symbol_at.ensures.there

pub returns-in_err-id-clause-there : goal.returns-in_err-id-clause-there
returns-in_err-id-clause-there c = grind (arith, common_steps)

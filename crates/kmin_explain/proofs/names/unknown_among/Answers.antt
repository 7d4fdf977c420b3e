use Rattle.kmin_explain.proofs.Common.{not, sym, ◌∙◌, ap, is_some, prefix_bytes}
use Rattle.kmin_explain.proofs.NameLists.{passed_over, if_not_none}
use Rattle.kmin_explain.proofs.names.unknown_among.Goals as goal

pub loop-name-preserved : goal.loop-name-preserved
loop-name-preserved c =
    passed_over c.args.tree.now.tree (prefix_bytes c.args.prefix.now) c.args.names.now c.loop-name.name-index _ _ c.loop-name-test.true
    (ap (λ o. not (is_some o)) (sym c.symbol_meant.ensures.symbol) ∙ if_not_none _ c.is_none.result c.is_none.ensures c.if-is_none.false) c.loop-name.invariant

use Rattle.kc_tree.proofs.Common.{length, arith, ap, TreeModel}
use Rattle.kc_tree.proofs.RowViews.{symbols_length}
use Rattle.kc_tree.proofs.tree.Tree.symbol_count.Goals as goal

pub returns : goal.returns
returns c =
    let v = ap (λ (h : TreeModel). length h.tree.symbols) c.self.view_is in
    let l = symbols_length c.self.inside in
    omega arith

use Rattle.kc_tree.proofs.Common.{length, arith, ap, TreeModel}
use Rattle.kc_tree.proofs.RowViews.{units_length}
use Rattle.kc_tree.proofs.tree.Tree.len.Goals as goal

pub returns : goal.returns
returns c =
    let v = ap (λ (h : TreeModel). length h.tree.units) c.self.view_is in
    let l = units_length c.self.inside in
    omega arith

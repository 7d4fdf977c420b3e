use Rattle.kc_tree.proofs.Common.{length, arith, ap, TreeModel}
use Rattle.kc_tree.proofs.RowViews.{entries_length}
use Rattle.kc_tree.proofs.tree.Tree.entry_count.Goals as goal

pub returns : goal.returns
returns c =
    let v = ap (λ (h : TreeModel). length h.tree.entries) c.self.view_is in
    let l = entries_length c.self.inside in
    omega arith

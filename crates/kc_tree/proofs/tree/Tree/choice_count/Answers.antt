use Rattle.kc_tree.proofs.Common.{length, arith, ap, TreeModel}
use Rattle.kc_tree.proofs.RowViews.{choices_length}
use Rattle.kc_tree.proofs.tree.Tree.choice_count.Goals as goal

pub returns : goal.returns
returns c =
    let v = ap (λ (h : TreeModel). length h.tree.choices) c.self.view_is in
    let l = choices_length c.self.inside in
    omega arith

use Rattle.kc_minimal.proofs.Common.{arith, common_steps, IfOk-weaker}
use Rattle.kc_minimal.proofs.Comparisons.{compared, compared_as}
use Rattle.kc_minimal.proofs.comparison.compare.Goals as goal

pub returns-clause-none : goal.returns-clause-none
returns-clause-none c =
    let l = c.args.left.now in
    let r = c.args.right.now in
    IfOk-weaker c.differing.result _ _ (λ found is. compared c.differences_decide_minimal_files.ensures l r c.values.ensures.solved c.values-2.ensures.solved
    c.requires.tree c.requires.profile found.items
    (compared_as c.settled.result.now l.system c.values.result.now l.values c.values-2.result.now r.values c.settled.ensures c.values.ensures.values
    c.values-2.ensures.values found.items is)) c.differing.ensures

pub returns-clause-differences : goal.returns-clause-differences
returns-clause-differences c = grind (arith, common_steps)

use Rattle.kc_minimal.proofs.Common.{arith, common_steps, value_of_symbol, tree_of_settled, difference_at, difference_view}
use Rattle.kc_minimal.proofs.RangeLines.{found_more}
use Rattle.kc_minimal.proofs.difference.differing.Goals as goal

pub loop-number-preserved : goal.loop-number-preserved
loop-number-preserved c =
    let tree = tree_of_settled c.args.settled.now in
    found_more difference_view (λ s. difference_at s (value_of_symbol tree c.args.left.now s) (value_of_symbol tree c.args.right.now s)) c.loop-number.number
    c.loop-number.found.items _ c.loop-number.invariant (rw c.at.ensures at c.in_ok-push_if_differing.ensures.ok)

pub push_if_differing-requires : goal.push_if_differing-requires
push_if_differing-requires c = grind (arith, common_steps)

use Rattle.kmin_details.proofs.NearSteps.{taken_at, left_at}
use Rattle.kmin_details.proofs.near_names.nearest.Goals as goal
use Rattle.kmin_details.proofs.near_names.nearest.Goals.{then-count-fewest, else-count-fewest}

pub loop-name-preserved : goal.loop-name-preserved
loop-name-preserved c =
    elim c.if-count-fewest.branch [
      | then-count-fewest w ↦ rw (w.found-is, w.fewest-is)
          (taken_at _ _ _ _ _ _ _ c.loop-name-test.true c.loop-name.invariant c.in_ok-count.ensures w.if-count-fewest.true)
      | else-count-fewest w ↦ rw (w.found-is, w.fewest-is)
          (left_at _ _ _ _ _ _ _ c.loop-name-test.true c.loop-name.invariant c.in_ok-count.ensures w.if-count-fewest.false)
    ]

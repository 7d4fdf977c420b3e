use Rattle.std.proofs.Common.{inr, arith}
use Rattle.kmin_details.proofs.ChangeBounds.{changes_bound, not_below, least_limit}
use Rattle.kmin_details.proofs.near_names.changes_below.Goals as goal
use Rattle.kmin_details.proofs.near_names.changes_below.Goals.{then-limit-le1-via-then-limit-le1, then-limit-le1-via-else-limit-le1+then-abs_diff-limit}

pub returns-then-limit-le1 : goal.returns-then-limit-le1
returns-then-limit-le1 c =
    elim c.then-limit-le1.branch [
      | then-limit-le1-via-then-limit-le1 w ↦ least_limit _ c.args.limit w.if-limit-le1.true
      | then-limit-le1-via-else-limit-le1+then-abs_diff-limit w ↦
          let bound = changes_bound c.args.word.now c.args.name.now in
          not_below _ c.args.limit (inr (omega (arith, bound.0, bound.1)))
    ]

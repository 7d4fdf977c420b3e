use Rattle.std.proofs.Common.{arith, ap, ◌∙◌, sym, ◌||◌, ◌-◌}
use Rattle.kc_files.proofs.MatchLemmas.{spread_more}
use Rattle.kc_files.proofs.name_matches.pass_any_bytes.Goals as goal
use Rattle.kc_files.proofs.name_matches.pass_any_bytes.Goals.{then-ends-at, else-ends-at}

pub loop-at-preserved : goal.loop-at-preserved
loop-at-preserved c = spread_more c.args.ends.now c.loop-at.ends c.loop-at.at (c.loop-at.at - 1) c.loop-at.some c.if-ends-at.some
    (omega arith) c.loop-at.auto.ends c.loop-at.invariant (elim c.if-ends-at.branch [
      | then-ends-at w ↦ w.some-is ∙ w.if-ends-at.true ∙ ap (λ b. b || c.loop-at.some) (sym w.if-ends-at.true)
      | else-ends-at w ↦ w.some-is ∙ ap (λ b. b || c.loop-at.some) (sym w.if-ends-at.false)
    ])

use Rattle.kc_conditions.proofs.Common.{arith, common_steps, conjunct, grows_on}
use Rattle.kc_conditions.proofs.Growth.{conjoins_there, conjoins_own, with_more}
use Rattle.kc_conditions.proofs.conditions.join_all.Goals as goal

pub loop-line-preserved : goal.loop-line-preserved
loop-line-preserved c =
    let old = c.args.arena.now in
    let mid = c.loop-line.arena in
    let new = c.join_optional.new.arena in
    let inv = c.loop-line.invariant in
    record {
      grows = grows_on old mid new inv.grows c.join_optional.ensures.grows;
      there = conjoins_there new c.in_ok-joined.joined _ (c.in_ok-joined.ensures.ok (conjunct mid c.loop-line.joined)
          (conjoins_own mid c.loop-line.joined inv.there));
      all =
          with_more old mid new c.args.which c.args.lines.now c.loop-line.line-index c.line-item.result c.args.all c.loop-line.joined c.in_ok-joined.joined
          c.conjunct_given.result
          inv.grows c.requires.held c.loop-line-test.true c.line-item.is c.conjunct_given.ensures inv.all c.in_ok-joined.ensures.ok;
    }

pub join_optional-requires-clause-more : goal.join_optional-requires-clause-more
join_optional-requires-clause-more c = grind (arith, common_steps)

pub returns-clause-ok : goal.returns-clause-ok
returns-clause-ok c = grind (arith, common_steps)

pub loop-line-init : goal.loop-line-init
loop-line-init c = grind (arith, common_steps)

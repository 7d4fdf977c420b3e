use Rattle.kmin_missed.proofs.OneLine.{one_more_line}
use Rattle.kmin_missed.proofs.one_line.push_in_one_line.Goals as goal

pub loop-line-preserved : goal.loop-line-preserved
loop-line-preserved c =
    one_more_line c.loop-line.out.items _ _ c.loop-line.lead.now c.in-Some.line.now c.without_spaces.result.now c.loop-line.rest.now c.in-Some.after.now _
    c.in_ok-extend_from_slice.ensures.items c.in_ok-extend_from_slice-2.ensures.items c.without_spaces.ensures c.in-Some.ensures.piece c.loop-line.invariant

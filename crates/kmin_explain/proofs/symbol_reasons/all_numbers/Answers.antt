use Rattle.kmin_explain.proofs.EachOnce.{more_found}
use Rattle.kmin_explain.proofs.symbol_reasons.all_numbers.Goals as goal

pub loop-number-preserved : goal.loop-number-preserved
loop-number-preserved c = more_found c.loop-number.found.items _ c.loop-number.number c.loop-number.invariant c.in_ok-push.ensures.items

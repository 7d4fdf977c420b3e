use Rattle.kc_checks.specs.checker.SummarySteps.{IsSummedTo}
use Rattle.kc_checks.proofs.summary.Summary.new.Given as goal

abbrev pub invariant-loop-i : goal.invariant-loop-i
invariant-loop-i l = IsSummedTo l.listing l.i l.summary

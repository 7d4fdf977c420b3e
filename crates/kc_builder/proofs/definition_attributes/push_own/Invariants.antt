use Rattle.kc_builder.proofs.ItemSteps.{IsOwnRest}
use Rattle.kc_builder.proofs.definition_attributes.push_own.Given as goal

abbrev pub invariant-loop-i : goal.invariant-loop-i
invariant-loop-i l = IsOwnRest l.symbol l.fn.found l.found l.own.lines.now l.own.conditions.now l.i

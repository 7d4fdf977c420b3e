use Rattle.kc_builder.proofs.Common.{own_key, member_default_row}
use Rattle.kc_builder.proofs.ItemSteps.{IsRest}
use Rattle.kc_builder.proofs.choice_defaults.push_defaults.Given as goal

abbrev pub invariant-loop-i : goal.invariant-loop-i
invariant-loop-i l = IsRest (own_key l.choice (member_default_row l.own.names.now)) (member_default_row l.own.names.now) l.fn.found l.found l.own.lines.now
    l.own.conditions.now l.i

use Rattle.std.proofs.Common.{rules}
use Rattle.kc_conditions.proofs.Common.{arith, common_steps, represents_on}
use Rattle.kc_conditions.proofs.group_walk.GroupWalk.new.Goals as goal

pub returns-clause-walked : goal.returns-clause-walked
returns-clause-walked c = λ language texts later g. record {
  yes_is = represents_on c.yes_and_no.new.arena later c.in_ok-constants.constants.0 _ g c.in_ok-constants.ensures.yes;
  no_is = represents_on c.yes_and_no.new.arena later c.in_ok-constants.constants.1 _ g c.in_ok-constants.ensures.no;
  stack_is = search rules;
  groups_are = search rules;
}

pub returns-clause-empty : goal.returns-clause-empty
returns-clause-empty c = grind (arith, common_steps)

use Rattle.kc_conditions.proofs.Common.{represents_on, grows_on}
use Rattle.kc_conditions.proofs.group_walk.yes_and_no.Goals as goal

pub returns-in_err-no-clause-grows : goal.returns-in_err-no-clause-grows
returns-in_err-no-clause-grows c = grows_on c.args.arena.now c.constant.new.self c.constant-2.new.self c.constant.ensures.grows c.constant-2.ensures.grows

pub returns-clause-grows : goal.returns-clause-grows
returns-clause-grows c = grows_on c.args.arena.now c.constant.new.self c.constant-2.new.self c.constant.ensures.grows c.constant-2.ensures.grows

pub returns-clause-yes : goal.returns-clause-yes
returns-clause-yes c = represents_on c.constant.new.self c.constant-2.new.self c.in_ok-yes.yes _ c.constant-2.ensures.grows c.in_ok-yes.ensures.ok

use Rattle.kc_config.proofs.Common.{arith, common_steps}
use Rattle.kc_config.proofs.ConfigSolutions.{solved_as, none_kept}
use Rattle.kc_config.proofs.config.Config.new.Goals as goal

pub invariant_of-result : goal.invariant_of-result
invariant_of-result c =
    none_kept c.args.settled.now c.in_ok-session.session c.new-2.result.items
    (solved_as c.args.settled.now c.in_ok-session.session c.in_ok-session.ensures.system c.tree.ensures.settled c.values.ensures.fits_users
    c.values.ensures.fits c.values.ensures.gives)
    c.in_ok-session.ensures.system c.in_ok-session.ensures.users c.new-2.ensures.items

pub returns-clause-solved : goal.returns-clause-solved
returns-clause-solved c =
    solved_as c.args.settled.now c.in_ok-session.session c.in_ok-session.ensures.system c.tree.ensures.settled c.values.ensures.fits_users c.values.ensures.fits
    c.values.ensures.gives

pub returns-clause-users : goal.returns-clause-users
returns-clause-users c = c.in_ok-session.ensures.users

pub returns-clause-settled : goal.returns-clause-settled
returns-clause-settled c = grind (arith, common_steps)

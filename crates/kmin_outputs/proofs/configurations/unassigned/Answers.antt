use Rattle.kmin_outputs.proofs.configurations.unassigned.Goals as goal

pub returns-clause-settled : goal.returns-clause-settled
returns-clause-settled c = c.in_ok-config.ensures.settled

pub returns-clause-solved : goal.returns-clause-solved
returns-clause-solved c = c.in_ok-config.ensures.solved

pub returns-clause-users : goal.returns-clause-users
returns-clause-users c = c.in_ok-config.ensures.users

use Rattle.kmin_cli.proofs.command_line.settings_beside.Goals as goal

pub returns-in-Over : goal.returns-in-Over
returns-in-Over c = rw c.in-Over.is (rw c.deref.ensures.value at c.settings_of.ensures)

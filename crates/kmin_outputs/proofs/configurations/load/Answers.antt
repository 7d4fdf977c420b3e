use Rattle.kmin_outputs.proofs.configurations.load.Goals as goal

pub returns-in-Ok-clause-notices : goal.returns-in-Ok-clause-notices
returns-in-Ok-clause-notices g c = rw (c.deref.ensures.value, c.tree.ensures.tree) at c.report_notices.ensures

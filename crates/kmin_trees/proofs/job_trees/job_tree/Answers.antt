use Rattle.kmin_trees.proofs.job_trees.job_tree.Goals as goal

pub returns-in-Ok-clause-accepted : goal.returns-in-Ok-clause-accepted
returns-in-Ok-clause-accepted g c = let a = c.in-Ok.ensures.accepted in (a.0, a.1, a.2.accepted, a.3)

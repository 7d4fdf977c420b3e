use Rattle.kmin_run.proofs.job_output.SettledJob.output.Goals as goal

pub returns-in-Over-clause-output : goal.returns-in-Over-clause-output
returns-in-Over-clause-output g c = rw c.in-Over.is (rw c.deref.ensures.value at c.output_of_files.ensures.output)

pub returns-in-Over-clause-stopped : goal.returns-in-Over-clause-stopped
returns-in-Over-clause-stopped g c = rw c.in-Over.is (rw c.deref.ensures.value at c.output_of_files.ensures.stopped)

pub returns-in-Compare-clause-output : goal.returns-in-Compare-clause-output
returns-in-Compare-clause-output g c = rw c.in-Compare.is c.output_of_comparison.ensures.output

pub returns-in-Compare-clause-stopped : goal.returns-in-Compare-clause-stopped
returns-in-Compare-clause-stopped g c = rw c.in-Compare.is c.output_of_comparison.ensures.stopped

use Rattle.kmin_run.proofs.Common.{rules, tree_of_settled, settings_view, task_view, if_err, if_err_map, rises_later}
use Rattle.kmin_outputs.specs.Stops.{at_tree}
use Rattle.kmin_outputs.proofs.JobOutputs.{job_outputs, job_stops}
use Rattle.kmin_run.proofs.job_output.output_of_job.Goals as goal

pub returns-in_err-settled-clause-stopped : goal.returns-in_err-settled-clause-stopped
returns-in_err-settled-clause-stopped g c =
    let stopped = c.in_err-settled.ensures.stopped in
    if_err c.from_residual.result c.in_err-settled.field-0.0 _ (search rules) (stopped.0, at_tree stopped.1, stopped.2)

pub returns-clause-output : goal.returns-clause-output
returns-clause-output g c =
    let accepted = c.in_ok-settled.ensures.accepted in
    job_outputs (g.F.Files.surroundings c.args.files.now) (settings_view c.args.job.now.settings)
    (task_view c.args.job.now.task) (tree_of_settled c.in_ok-settled.settled) accepted.0
    accepted.1 accepted.2 _ _ _ _ _ _ accepted.3 c.output-output.result (rw c.job_tree.ensures.same at c.output-output.ensures.output)

pub returns-clause-stopped : goal.returns-clause-stopped
returns-clause-stopped g c =
    let accepted = c.in_ok-settled.ensures.accepted in
    job_stops (g.F.Files.surroundings c.args.files.now) (settings_view c.args.job.now.settings)
    (task_view c.args.job.now.task) (tree_of_settled c.in_ok-settled.settled) accepted.0
    accepted.1 accepted.2 _ _ _ _ _ _ accepted.3 _ _ c.output-output.result (rw c.job_tree.ensures.same at c.output-output.ensures.stopped)

pub returns-in_err-settled-clause-failed : goal.returns-in_err-settled-clause-failed
returns-in_err-settled-clause-failed g c = if_err c.from_residual.result c.in_err-settled.field-0.0 _ (search rules) c.in_err-settled.ensures.failed

pub returns-clause-failed : goal.returns-clause-failed
returns-clause-failed g c =
    if_err_map c.output-output.result _ _ (λ stop failed. λ five.
    rises_later (g.F.Files.failures c.args.files.now) (g.F.Files.failures c.job_tree.new.files) (g.F.Files.failures c.output-output.new.files)
    c.job_tree.ensures.rising c.output-output.ensures.rising (failed five)) c.output-output.ensures.failed

use Rattle.kmin_explain_command.proofs.Common.{rules, explain_job_view, tree_model_of, if_err_map, rises_later}
use Rattle.kmin_outputs.specs.Stops.{at_tree}
use Rattle.kmin_explain_command.specs.Stops.{before_output}
use Rattle.kmin_explain_command.proofs.Endings.{job_outputs, job_stops}
use Rattle.kmin_explain_command.proofs.SourceParts.{read_tree}
use Rattle.kmin_report.proofs.Results.{if_err}
use Rattle.kmin_explain_command.proofs.command.explained.Goals as goal

pub explained_over-output-requires-clause-read : goal.explained_over-output-requires-clause-read
explained_over-output-requires-clause-read g c =
    let lined = c.in_ok-tree.ensures.accepted.2 in
    read_tree c.in_ok-tree.ensures.accepted.0.texts c.args.job.now.settings.tree.now (tree_model_of c.in_ok-tree.tree.settled) c.in_ok-tree.tree.lines lined.lines

pub returns-in_err-tree-clause-stopped : goal.returns-in_err-tree-clause-stopped
returns-in_err-tree-clause-stopped g c =
    let stopped = c.in_err-tree.ensures.stopped in
    if_err c.from_residual.result c.in_err-tree.field-0.0 _ (search rules) (stopped.0, before_output (at_tree stopped.1), stopped.2)

pub returns-clause-output : goal.returns-clause-output
returns-clause-output g c =
    let a = c.in_ok-tree.ensures.accepted in
    job_outputs (g.F.Files.surroundings c.args.files.now) (explain_job_view c.args.job.now) c.in_ok-tree.tree a.0 a.1 a.2 _ _ _ _ _ _ a.3
    c.explained_over-output.result (rw c.job_tree_with_lines.ensures.same at c.explained_over-output.ensures.output)

pub returns-clause-stopped : goal.returns-clause-stopped
returns-clause-stopped g c =
    let a = c.in_ok-tree.ensures.accepted in
    job_stops (g.F.Files.surroundings c.args.files.now) (explain_job_view c.args.job.now) c.in_ok-tree.tree a.0 a.1 a.2 _ _ _ _ _ _ a.3 _ _
    c.explained_over-output.result (rw c.job_tree_with_lines.ensures.same at c.explained_over-output.ensures.stopped)

pub returns-in_err-tree-clause-failed : goal.returns-in_err-tree-clause-failed
returns-in_err-tree-clause-failed g c = if_err c.from_residual.result c.in_err-tree.field-0.0 _ (search rules) c.in_err-tree.ensures.failed

pub returns-clause-failed : goal.returns-clause-failed
returns-clause-failed g c =
    if_err_map c.explained_over-output.result _ _ (λ stop failed. λ five.
    rises_later (g.F.Files.failures c.args.files.now) (g.F.Files.failures c.job_tree_with_lines.new.files) (g.F.Files.failures c.explained_over-output.new.files)
    c.job_tree_with_lines.ensures.rising c.explained_over-output.ensures.rising (failed five)) c.explained_over-output.ensures.failed

use Rattle.kmin_trees.proofs.Common.{rules, expansion_view, if_err_map, if_err}
use Rattle.kmin_trees.specs.Stops.{among_answers}
use Rattle.kmin_trees.proofs.JobTrees.{stopped_expanding, both_expanded}
use Rattle.kmin_trees.proofs.UnfailedStops.{expanding_unfailed}
use Rattle.kmin_trees.proofs.job_trees.expanded_files.Goals as goal

pub returns-in_err-answers-clause-stopped : goal.returns-in_err-answers-clause-stopped
returns-in_err-answers-clause-stopped g c =
    let stopped = c.in_err-answers.ensures.stopped in
    if_err c.from_residual.result c.in_err-answers.field-0.0 _ (search rules) (stopped.0, among_answers stopped.1, stopped.2)

pub returns-clause-expanded : goal.returns-clause-expanded
returns-clause-expanded g c =
    both_expanded (g.F.Files.surroundings c.args.files.now) _ _ c.args.settings.now.language (expansion_view c.args.expansion.now) _
    c.in_ok-answers.ensures.answers _ _ _ _ _ _ c.in_ok-answers.ensures.unreported
    c.expanded_tree-tree.result c.expanded_tree-tree.ensures.texts (rw c.job_answers.ensures.same at c.expanded_tree-tree.ensures.expanded)

pub returns-clause-stopped : goal.returns-clause-stopped
returns-clause-stopped g c =
    if_err_map c.expanded_tree-tree.result _ _ (λ stop stopped.
    stopped_expanding (g.F.Files.surroundings c.args.files.now) _ _ c.args.settings.now.language (expansion_view c.args.expansion.now) _
    c.in_ok-answers.ensures.answers _ _ _ _ _ _ c.in_ok-answers.ensures.unreported (g.F.Files.failures c.args.files.now)
    (g.F.Files.failures c.job_answers.new.files) (g.F.Files.failures c.expanded_tree-tree.new.files) c.job_answers.ensures.rising
    c.expanded_tree-tree.ensures.rising _ stopped)
    (rw c.job_answers.ensures.same at c.expanded_tree-tree.ensures.stopped)

pub returns-in_err-answers-clause-failed : goal.returns-in_err-answers-clause-failed
returns-in_err-answers-clause-failed g c = if_err c.from_residual.result c.in_err-answers.field-0.0 _ (search rules) c.in_err-answers.ensures.failed

pub returns-clause-failed : goal.returns-clause-failed
returns-clause-failed g c =
    if_err_map c.expanded_tree-tree.result _ _ (λ stop stopped. λ five. absurd (expanding_unfailed _ _ _ _ _ _ _ stopped.1 five))
    c.expanded_tree-tree.ensures.stopped

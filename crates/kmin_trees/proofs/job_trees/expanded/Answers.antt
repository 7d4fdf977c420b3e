use Rattle.kmin_trees.proofs.Common.{rules, expansion_view, IsJobTree, if_err, if_err_map}
use Rattle.kmin_trees.specs.between.ExpandedStops.{in_expansion}
use Rattle.kmin_trees.proofs.JobTrees.{settled_accepted, settled_stopped}
use Rattle.kmin_trees.proofs.UnfailedStops.{texts_unfailed}
use Rattle.kmin_trees.proofs.job_trees.expanded.Goals as goal

pub returns-in_err-found-clause-stopped : goal.returns-in_err-found-clause-stopped
returns-in_err-found-clause-stopped g c =
    let stopped = c.in_err-found.ensures.stopped in
    if_err c.from_residual.result c.in_err-found.field-0.0 _ (search rules) (stopped.0, in_expansion stopped.1, stopped.2)

pub returns-clause-accepted : goal.returns-clause-accepted
returns-clause-accepted g c =
    settled_accepted (g.F.Files.surroundings c.args.files.now) _ _ c.args.settings.now.language (expansion_view c.args.expansion.now) _ _ _ _ _ _ _ _
    c.in_ok-found.ensures.expanded
    (λ t job. IsJobTree _ g.L.KeptLines.are_of t c.args.settings.now.tree.now job) c.settled_expanded.result c.settled_expanded.ensures.accepted c.settled_expanded.ensures.unreported

pub returns-clause-stopped : goal.returns-clause-stopped
returns-clause-stopped g c =
    settled_stopped (g.F.Files.surroundings c.args.files.now) _ _ c.args.settings.now.language (expansion_view c.args.expansion.now) _ _ _ _ _ _ _ _
    c.in_ok-found.ensures.expanded _ _
    c.settled_expanded.result c.settled_expanded.ensures.stopped

pub returns-in_err-found-clause-failed : goal.returns-in_err-found-clause-failed
returns-in_err-found-clause-failed g c = if_err c.from_residual.result c.in_err-found.field-0.0 _ (search rules) c.in_err-found.ensures.failed

pub returns-clause-failed : goal.returns-clause-failed
returns-clause-failed g c =
    if_err_map c.settled_expanded.result _ _ (λ stop stopped. λ five. absurd (texts_unfailed _ _ _ _ _ stopped.1 five)) c.settled_expanded.ensures.stopped

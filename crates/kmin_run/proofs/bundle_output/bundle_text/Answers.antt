use Rattle.kmin_run.proofs.Common.{rules, if_err}
use Rattle.kmin_run.proofs.BundleOutputs.{tree_stopped, bundle_outputs, configuration_stopped}
use Rattle.kmin_run.proofs.bundle_output.bundle_text.Goals as goal

pub returns-in_err-settled-clause-stopped : goal.returns-in_err-settled-clause-stopped
returns-in_err-settled-clause-stopped g c =
    if_err c.from_residual.result c.in_err-settled.field-0.0 _ (search rules)
    (tree_stopped c.args.bundle.now c.split_bundle.result.0.now c.split_bundle.result.1.now c.split_bundle.ensures _ _ _ _ _ c.in_err-settled.ensures.stopped)

pub returns-clause-ok : goal.returns-clause-ok
returns-clause-ok g c =
    bundle_outputs c.args.bundle.now c.split_bundle.result.0.now c.split_bundle.result.1.now c.split_bundle.ensures c.in_ok-settled.settled c.in_ok-settled.ensures.accepted
    c.in_ok-settled.ensures.profile
    _ _ _ _ _ _ c.in_ok-settled.ensures.unreported c.full_over-text.result c.full_over-text.ensures.ok

pub returns-clause-stopped : goal.returns-clause-stopped
returns-clause-stopped g c =
    configuration_stopped c.args.bundle.now c.split_bundle.result.0.now c.split_bundle.result.1.now c.split_bundle.ensures c.in_ok-settled.settled c.in_ok-settled.ensures.accepted
    c.in_ok-settled.ensures.profile
    _ _ _ _ _ _ c.in_ok-settled.ensures.unreported c.full_over-text.result c.full_over-text.ensures.stopped

use Rattle.kmin_run.proofs.Common.{◌++◌, Err, refl, ap, ◌∙◌, last_lines, stopped, of_fault}
use Rattle.kmin_run.specs.BundleOutputs.{StopsOnBundle}
use Rattle.kmin_run.specs.Runs.{done}
use Rattle.kmin_report.proofs.LastLines.{ends_by}
use Rattle.kmin_run.proofs.RunEnds.{bundle_wrote, five_is_failed}
use Rattle.kmin_run.proofs.program.Program.serve_bundle.Goals as goal

pub returns-in-Ok-clause-ends : goal.returns-in-Ok-clause-ends
returns-in-Ok-clause-ends g c =
    let ok = c.in-Ok.ensures.ok in
    let unfailed = c.in-Ok.ensures.unfailed in
    (ok.2, done ok.0 ok.1 refl ok.3 ok.4 ok.5 ok.6 unfailed.0 unfailed.1 refl, ok.7)

pub returns-in-Err-clause-ends : goal.returns-in-Err-clause-ends
returns-in-Err-clause-ends g c =
    let status = c.exit_status.ensures.status in
    let w = ends_by (StopsOnBundle (g.I.Source.left c.args.self.now.input) (g.I.Source.left c.run_bundle.new.input)) c.exit_status.result _ _ _ _ _ _ c.in-Err.stop status
    c.in-Err.ensures.stopped c.exit_status.ensures.reported in (
      w.0 ++ last_lines c.exit_status.result,
      stopped w.0 w.1 (of_fault c.in-Err.stop c.exit_status.result status)
          (bundle_wrote _ _ c.in-Err.stop c.exit_status.result status (λ e. c.run_bundle.ensures.part (c.in-Err.is ∙ ap Err e)) c.in-Err.ensures.unwritten)
          (λ five. c.run_bundle.ensures.failures (c.in-Err.is ∙ ap Err (five_is_failed c.in-Err.stop c.exit_status.result status five))) refl refl,
      w.2,
    )

use Rattle.kmin_run.proofs.Common.{inl, sym, ◌∙◌, tree_in, settings_view, if_err_map, no_value, with_error}
use Rattle.kc_minimal_model.specs.Differences.{differences}
use Rattle.kmin_outputs.proofs.ReadFailures.{comparing_unfailed}
use Rattle.kmin_outputs.proofs.JobOutputs.{comparison_outputs, comparison_stops, list_status_small}
use Rattle.kmin_run.proofs.job_output.SettledJob.output_of_comparison.Goals as goal

pub returns-in_err-before : goal.returns-in_err-before
returns-in_err-before g c =
    let stopped = c.in_err-before.ensures.stopped in
    record {
      status = no_value c.from_residual.result _ _ c.from_residual.ensures.1;
      output = no_value c.from_residual.result _ _ c.from_residual.ensures.1;
      stopped = with_error c.from_residual.result _ _ c.from_residual.ensures.1 (stopped.0, inl stopped.1, stopped.2);
      failed = with_error c.from_residual.result _ _ c.from_residual.ensures.1 c.in_err-before.ensures.failed;
      rising = c.read_both.ensures.rising;
    }

pub returns : goal.returns
returns g c =
    let content_of = (g.F.Files.surroundings c.args.files.now).content in
    let settings = settings_view c.args.self.now.settings.now in
    let before = c.in_ok-before.before in
    let after = c.in_ok-before.after in
    let given = c.in_ok-before.ensures in
    let output = c.noticed_comparison-output.result in
    let known = c.noticed_comparison-output.ensures in record {
      status = list_status_small output (differences (tree_in before.config) before.config.values after.config.values) known.status;
      output = comparison_outputs content_of settings before after c.args.self.now.settled.now c.args.left.now c.args.right.now _ _ _ _ _ _ given.settled
          c.args.self.now.profile given.solved given.loaded output known.text known.status known.noticed;
      stopped = comparison_stops content_of settings before after c.args.self.now.settled.now c.args.left.now c.args.right.now _ _ _ _ _ _ given.settled
          c.args.self.now.profile given.solved given.loaded output known.stopped;
      failed = if_err_map output _ _ (λ stop stopped. λ five. absurd (comparing_unfailed _ _ _ _ _ _ _ _ _ _ stopped five)) known.stopped;
      rising = c.read_both.ensures.rising;
    }

pub noticed_comparison-output-requires : goal.noticed_comparison-output-requires
noticed_comparison-output-requires g c = c.in_ok-before.ensures.settled.0 ∙ sym c.in_ok-before.ensures.settled.1

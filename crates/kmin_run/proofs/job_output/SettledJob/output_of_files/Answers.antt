use Rattle.kmin_run.proofs.Common.{inl, List, ℕ, map, Bor, tree_in, settings_view, if_err_map, no_value, with_error}
use Rattle.kmin_outputs.proofs.ReadFailures.{producing_unfailed}
use Rattle.kmin_outputs.proofs.JobOutputs.{verb_outputs, verb_stops, verb_status_small}
use Rattle.kmin_run.proofs.job_output.SettledJob.output_of_files.Goals as goal

pub returns-in_err-read : goal.returns-in_err-read
returns-in_err-read g c =
    let stopped = c.in_err-read.ensures.stopped in
    record {
      status = no_value c.from_residual.result _ _ c.from_residual.ensures.1;
      output = no_value c.from_residual.result _ _ c.from_residual.ensures.1;
      stopped = with_error c.from_residual.result _ _ c.from_residual.ensures.1 (stopped.0, inl stopped.1, stopped.2);
      failed = with_error c.from_residual.result _ _ c.from_residual.ensures.1 c.in_err-read.ensures.failed;
      rising = c.configured.ensures.rising;
    }

pub returns : goal.returns
returns g c =
    let content_of = (g.F.Files.surroundings c.args.files.now).content in
    let settings = settings_view c.args.self.now.settings.now in
    let paths = map (λ (path : Bor (List ℕ)). path.now) c.args.paths.now in
    let read = c.in_ok-read.read in
    let given = c.in_ok-read.ensures in
    let output = c.noticed_output-output.result in
    let known = c.noticed_output-output.ensures in record {
      status = verb_status_small output (tree_in read.config) read.config.users read.config.values c.args.verb known.status;
      output = verb_outputs content_of settings c.args.verb read c.args.self.now.settled.now paths _ _ _ _ _ _ given.settled c.args.self.now.profile given.solved
          given.loaded output known.text known.status known.noticed;
      stopped = verb_stops content_of settings c.args.verb read c.args.self.now.settled.now paths _ _ _ _ _ _ given.settled c.args.self.now.profile given.solved
          given.loaded output known.stopped;
      failed = if_err_map output _ _ (λ stop stopped. λ five. absurd (producing_unfailed _ _ _ _ _ _ _ _ stopped five)) known.stopped;
      rising = c.configured.ensures.rising;
    }

use Rattle.kmin_run.proofs.Common.{inl, inr, refl, sym, ◌∙◌, settings_view, fault_at_most_six}
use Rattle.kmin_run.proofs.TidyLemmas.{ends_small, ends_unwritten, went_over, tree_ends}
use Rattle.kmin_run.proofs.program.Program.tidy_paths.Goals as goal

pub returns-in-Ok : goal.returns-in-Ok
returns-in-Ok g c =
    let run = c.tidy_files-status.ensures in record {
      status = ends_small _ _ _ _ _ _ _ _ _ _ run.ends.1;
      ends =
          went_over _ _ _ _ _ _ c.tidy_files-status.result
          (g.F.Files.surroundings c.args.self.now.files) _ _
          (settings_view c.args.tidy_job.now.settings) c.args.tidy_job.now.flags c.in-Ok.settled c.args.tidy_job.now.settings.format
          c.options_of.result _ _ _ c.in-Ok.ensures.profile refl c.options_of.ensures c.in-Ok.ensures.accepted run.ends run.became
          run.again run.silent;
      unasked = λ e. c.tidy_files-status.ensures.unasked (rw c.options_of.ensures e);
      unwritten = λ zero one four five. ends_unwritten _ _ _ _ _ _ _ _ _ _ run.ends.1 zero one four five;
      rising = c.job_tree.ensures.rising;
      failed = λ five. inr (_, _, run.ends.0, record { ends = run.ends.1; became = run.became; again = run.again; silent = run.silent });
    }

pub returns-in-Err : goal.returns-in-Err
returns-in-Err g c = record {
  status = fault_at_most_six c.in-Err.stop c.exit_status.result c.exit_status.ensures.status;
  ends =
      tree_ends _ _ _ _ _ _ c.exit_status.result
      (g.F.Files.surroundings c.args.self.now.files) _ _
      (settings_view c.args.tidy_job.now.settings) c.args.tidy_job.now.flags _ _ c.in-Err.stop c.exit_status.ensures.status c.in-Err.ensures.stopped
      c.exit_status.ensures.reported;
  unasked = λ e. refl;
  unwritten = λ zero one four five. refl;
  rising = c.job_tree.ensures.rising;
  failed = λ five. inl (c.in-Err.ensures.failed (sym c.exit_status.ensures.status ∙ five));
}

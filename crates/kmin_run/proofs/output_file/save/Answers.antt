use Rattle.kmin_run.proofs.Common.{inl, inr, refl, sym, ◌∙◌, arith, ◌++◌, settings_view, task_view, lines_kept, output_at_most_six, output_not_two, fault_at_most_six, of_fault}
use Rattle.kmin_run.specs.Saves.{saved}
use Rattle.kmin_run.proofs.SaveLemmas.{ends_before, ends_at_file}
use Rattle.kmin_run.proofs.output_file.save.Goals as goal

pub returns-in-Ok-save_text : goal.returns-in-Ok-save_text
returns-in-Ok-save_text g c =
    let w = c.in-Ok.ensures.output in
    let status = c.in-Ok.output.status in record {
      status = output_at_most_six status c.in-Ok.ensures.status;
      accepted_words = output_not_two status c.in-Ok.ensures.status;
      ends = (
        w.0.lines ++ w.1,
        saved w.0 c.in-Ok.output.text.items w.1 w.2 w.3 (rw c.deref.ensures.value at c.in-Ok-save_text.ensures.saved) refl,
        lines_kept _ _ _ _ _ _ (w.0.lines ++ w.1) w.4 c.in-Ok-save_text.ensures.unreported,
      );
      failed = λ five. absurd (omega (arith, five, c.in-Ok.ensures.status));
    }

pub returns-in-Ok : goal.returns-in-Ok
returns-in-Ok g c =
    let files = c.args.files.now in
    let stop = c.in-Err-save_text.stop in
    let status = c.exit_status.result in record {
      status = fault_at_most_six stop status c.exit_status.ensures.status;
      accepted_words = (of_fault stop status c.exit_status.ensures.status).2;
      ends =
          ends_at_file (g.F.Files.surroundings files) _ _
          (settings_view c.args.output_job.now.job.settings) (task_view c.args.output_job.now.job.task) c.args.output_job.now.output.now _ _
          stop status c.exit_status.ensures.status _ _ _ _
          c.in-Ok.output.text.items c.in-Ok.output.status _ _ _ _ c.in-Ok.ensures.output (rw c.deref.ensures.value at c.in-Err-save_text.ensures.unsaved)
          c.exit_status.ensures.reported;
      failed = λ five.
          let unsaved = c.in-Err-save_text.ensures.unsaved in inr (_, unsaved.0, unsaved.1);
    }

pub returns : goal.returns
returns g c =
    let files = c.args.files.now in
    let status = c.exit_status-in-Err.result in record {
      status = fault_at_most_six c.in-Err.stop status c.exit_status-in-Err.ensures.status;
      accepted_words = (of_fault c.in-Err.stop status c.exit_status-in-Err.ensures.status).2;
      ends =
          ends_before (g.F.Files.surroundings files) _ _
          (settings_view c.args.output_job.now.job.settings) (task_view c.args.output_job.now.job.task) c.args.output_job.now.output.now _ _
          c.in-Err.stop status c.exit_status-in-Err.ensures.status _ _ _ _ _ _ refl c.in-Err.ensures.stopped
          c.exit_status-in-Err.ensures.reported;
      failed = λ five. inl (c.in-Err.ensures.failed (sym c.exit_status-in-Err.ensures.status ∙ five));
    }

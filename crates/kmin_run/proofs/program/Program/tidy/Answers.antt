use Rattle.kmin_run.proofs.Common.{[], ℕ, List, map, inl, inr, refl, sym, ◌∙◌, arith, rules, Bor, tidy_job_view, last_lines, Memory, at_list, rises_later, fault_at_most_six}
use Rattle.kmin_run.specs.TidyRuns.{for_memory}
use Rattle.kmin_run.proofs.RunStatuses.{two_at_most_six}
use Rattle.kmin_run.proofs.TidyLemmas.{list_ends, malformed_ends, over_all, read_before}
use Rattle.kmin_run.proofs.program.Program.tidy.Goals as goal

pub returns-in-Ok-all_paths : goal.returns-in-Ok-all_paths
returns-in-Ok-all_paths g c =
    let files = g.F.Files.failures c.args.self.now.files in
    let ended = rw (c.in-Ok.ensures.same, c.in-Ok.ensures.unfailed) at c.tidy_paths.ensures.ends in record {
      status = c.tidy_paths.ensures.status;
      ends =
          read_before _ _ _ _ _ _ c.tidy_paths.result
          (g.F.Files.surroundings c.args.self.now.files) _ _ (g.I.Source.left c.args.self.now.input) (tidy_job_view c.args.tidy_job.now) c.deref-2.result.now _ _
          (rw c.deref-2.ensures.value c.in-Ok.ensures.bytes) c.in-Ok.ensures.unreported
          (λ bytes. (
            ended.0,
            over_all
                (g.F.Files.surroundings c.args.self.now.files) _ _
                (g.I.Source.left c.args.self.now.input) (tidy_job_view c.args.tidy_job.now) c.deref-2.result.now _ _ ended.0 c.tidy_paths.result c.is_ended_by_nul.result
                (map (λ (path : Bor (List ℕ)). path.now) c.args.tidy_job.now.files.items) (map (λ (path : Bor (List ℕ)). path.now) c.deref-in-Ok-all_paths.result.now)
                c.is_ended_by_nul.ensures refl bytes c.in-Ok-all_paths.ensures.named (search rules) ended.1,
            ended.2,
          ));
      unasked = c.tidy_paths.ensures.unasked;
      unwritten = c.tidy_paths.ensures.unwritten;
      failed = λ five. elim (c.tidy_paths.ensures.failed five) [
        | inl rose ↦
            inl (inl (rises_later files (g.F.Files.failures c.list_bytes.new.files) (g.F.Files.failures c.tidy_paths.new.self.files)
            c.list_bytes.ensures.rising c.tidy_paths.ensures.rising rose))
        | inr over ↦ inr over
      ];
    }

pub returns-in-Err-OutOfMemory : goal.returns-in-Err-OutOfMemory
returns-in-Err-OutOfMemory g c = record {
  status = fault_at_most_six Memory c.exit_status-in-Err-OutOfMemory.result c.exit_status-in-Err-OutOfMemory.ensures.status;
  ends =
      read_before _ _ _ _ _ _ c.exit_status-in-Err-OutOfMemory.result
      (g.F.Files.surroundings c.args.self.now.files) _ _ (g.I.Source.left c.args.self.now.input) (tidy_job_view c.args.tidy_job.now) c.deref-2.result.now _ _
      (rw c.deref-2.ensures.value c.in-Ok.ensures.bytes) c.in-Ok.ensures.unreported
      (λ bytes. (last_lines c.exit_status-in-Err-OutOfMemory.result, at_list [] (for_memory c.exit_status-in-Err-OutOfMemory.ensures.status refl) refl refl, c.exit_status-in-Err-OutOfMemory.ensures.reported));
  unasked = λ e. refl;
  unwritten = λ zero one four five. refl;
  failed = λ five. absurd (omega (arith, five, c.exit_status-in-Err-OutOfMemory.ensures.status));
}

pub returns-in-Err-NotUtf8 : goal.returns-in-Err-NotUtf8
returns-in-Err-NotUtf8 g c = record {
  status = two_at_most_six c.refuse_list.result c.refuse_list.ensures.status;
  ends =
      read_before _ _ _ _ _ _ c.refuse_list.result
      (g.F.Files.surroundings c.args.self.now.files) _ _ (g.I.Source.left c.args.self.now.input) (tidy_job_view c.args.tidy_job.now) c.deref-2.result.now _ _
      (rw c.deref-2.ensures.value c.in-Ok.ensures.bytes) c.in-Ok.ensures.unreported
      (λ bytes. malformed_ends _ _ _ _ _ _ _ _ _ _ c.deref-2.result.now _ bytes (inl (search rules)) c.refuse_list.ensures.status c.refuse_list.ensures.reported);
  unasked = λ e. refl;
  unwritten = λ zero one four five. refl;
  failed = λ five. absurd (omega (arith, five, c.refuse_list.ensures.status));
}

pub returns : goal.returns
returns g c = record {
  status = two_at_most_six c.refuse_list-in-Err-HasNewline.result c.refuse_list-in-Err-HasNewline.ensures.status;
  ends =
      read_before _ _ _ _ _ _ c.refuse_list-in-Err-HasNewline.result
      (g.F.Files.surroundings c.args.self.now.files) _ _ (g.I.Source.left c.args.self.now.input) (tidy_job_view c.args.tidy_job.now) c.deref-2.result.now _ _
      (rw c.deref-2.ensures.value c.in-Ok.ensures.bytes) c.in-Ok.ensures.unreported
      (λ bytes. malformed_ends _ _ _ _ _ _ _ _ _ _ c.deref-2.result.now _ bytes (inr (search rules)) c.refuse_list-in-Err-HasNewline.ensures.status c.refuse_list-in-Err-HasNewline.ensures.reported);
  unasked = λ e. refl;
  unwritten = λ zero one four five. refl;
  failed = λ five. absurd (omega (arith, five, c.refuse_list-in-Err-HasNewline.ensures.status));
}

pub returns-in-Err : goal.returns-in-Err
returns-in-Err g c = record {
  status = fault_at_most_six c.in-Err.stop c.exit_status.result c.exit_status.ensures.status;
  ends =
      list_ends _ _ _ _ _ _ c.exit_status.result (g.F.Files.surroundings c.args.self.now.files) _ _
      (g.I.Source.left c.args.self.now.input) (tidy_job_view c.args.tidy_job.now) _ c.in-Err.stop c.exit_status.ensures.status c.in-Err.ensures.stopped
      c.exit_status.ensures.reported;
  unasked = λ e. refl;
  unwritten = λ zero one four five. refl;
  failed = λ five. inl (c.in-Err.ensures.failed (sym c.exit_status.ensures.status ∙ five));
}

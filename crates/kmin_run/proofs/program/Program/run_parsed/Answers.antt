use Rattle.kmin_run.proofs.Common.{[], ◌∷◌, inl, inr, refl, settings_view, questions_view, task_view, lines_one, Outputs}
use Rattle.kmin_options.specs.Jobs.{explain_job_view}
use Rattle.kmin_report.specs.Reports.{refused_line}
use Rattle.kmin_run.proofs.RunFailures.{help_rises}
use Rattle.kmin_run.proofs.Keeping.{keeps_of_output, keeps_refused}
use Rattle.kmin_run.proofs.RunEnds.{explain_ended, help_disk, job_ended, questions_ended}
use Rattle.kmin_run.proofs.RunStatuses.{help_at_most_six, help_no_other}
use Rattle.kmin_run.proofs.TidyLemmas.{by_asking}
use Rattle.kmin_run.proofs.program.Program.run_parsed.Goals as goal

pub returns-in-Job : goal.returns-in-Job
returns-in-Job g c =
    let self = c.args.self.now in
    let old : Outputs = record { disk = g.D.ReadDisk.disk self.disk; taken = g.O.Sink.taken self.out; failures = g.O.Sink.failures self.out } in record {
      ends = rw c.in-Job.is (
          job_ended (g.F.Files.surroundings self.files) _ _ old
          _ c.serve.result _ _ _ _ refl c.serve.ensures.accepted_words c.serve.ensures.unfailed c.serve.ensures.unwritten
          (settings_view c.in-Job.job.settings) (task_view c.in-Job.job.task) c.serve.ensures.done c.serve.ensures.stopped c.serve.ensures.part
          );
      keeps = keeps_of_output _ _ _ refl c.serve.ensures.status c.serve.ensures.unwritten c.serve.ensures.failed;
    }

pub returns-in-Save : goal.returns-in-Save
returns-in-Save g c =
    let ends = c.save.ensures.ends in record {
      ends = rw c.in-Save.is (ends.0, (ends.1, refl, refl), ends.2);
      keeps = rw c.in-Save.is (record {
        bounded = c.save.ensures.status;
        unasked = inr tt;
        refused = λ four. inl refl;
        unwritten = λ zero one four five. refl;
        failed = λ five. inr (inr tt);
      });
    }

pub returns-in-Questions : goal.returns-in-Questions
returns-in-Questions g c =
    let self = c.args.self.now in
    let old : Outputs = record { disk = g.D.ReadDisk.disk self.disk; taken = g.O.Sink.taken self.out; failures = g.O.Sink.failures self.out } in record {
      ends = rw c.in-Questions.is (
          questions_ended (g.F.Files.surroundings self.files) _ _ old
          _ c.list_questions.result _ _ _ _ refl c.list_questions.ensures.accepted_words c.list_questions.ensures.unfailed c.list_questions.ensures.unwritten
          (questions_view c.in-Questions.questions) c.list_questions.ensures.done c.list_questions.ensures.stopped c.list_questions.ensures.part
          );
      keeps = keeps_of_output _ _ _ refl c.list_questions.ensures.status c.list_questions.ensures.unwritten c.list_questions.ensures.failed;
    }

pub returns-in-Explain : goal.returns-in-Explain
returns-in-Explain g c =
    let self = c.args.self.now in
    let old : Outputs = record { disk = g.D.ReadDisk.disk self.disk; taken = g.O.Sink.taken self.out; failures = g.O.Sink.failures self.out } in record {
      ends = rw c.in-Explain.is (
          explain_ended (g.F.Files.surroundings self.files) _ _ old
          _ c.explain.result _ _ _ _ refl c.explain.ensures.accepted_words c.explain.ensures.unfailed c.explain.ensures.unwritten
          (explain_job_view c.in-Explain.explain_job) c.explain.ensures.done c.explain.ensures.stopped c.explain.ensures.part
          );
      keeps = keeps_of_output _ _ _ refl c.explain.ensures.status c.explain.ensures.unwritten c.explain.ensures.failed;
    }

pub returns-in-Tidy : goal.returns-in-Tidy
returns-in-Tidy g c =
    let ends = c.tidy.ensures.ends in record {
      ends = rw c.in-Tidy.is (ends.0, (ends.1, c.tidy.ensures.unasked), ends.2);
      keeps = rw c.in-Tidy.is (record {
        bounded = c.tidy.ensures.status;
        unasked = by_asking c.in-Tidy.tidy_job.flags.write c.tidy.ensures.unasked (λ e. e);
        refused = λ four. inr tt;
        unwritten = c.tidy.ensures.unwritten;
        failed = λ five. inr (inl tt);
      });
    }

pub returns-in-Help : goal.returns-in-Help
returns-in-Help g c =
    let ends = c.write_help.ensures.ends in record {
      ends = rw c.in-Help.is (ends.0, rw c.deref.ensures at ends.1, ends.2);
      keeps =
          keeps_of_output _ _ _ (help_disk _ _ _ _ _ ends.1) (help_at_most_six c.write_help.result c.write_help.ensures.status)
          (λ zero one five. help_no_other c.write_help.result c.write_help.ensures.status zero five)
          (λ five. inr (help_rises _ _ _ _ _ ends.1 five));
    }

pub returns-in-Refused : goal.returns-in-Refused
returns-in-Refused g c = record {
  ends = rw c.in-Refused.is (
    refused_line c.deref-in-Refused.result.now ∷ [],
    (c.refuse_words.ensures.status, refl, rw c.deref-in-Refused.ensures refl),
    lines_one _ _ _ _ _ c.refuse_words.ensures.reported,
  );
  keeps = keeps_refused _ _ _ refl c.refuse_words.ensures.status;
}

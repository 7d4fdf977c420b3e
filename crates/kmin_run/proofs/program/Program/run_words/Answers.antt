use Rattle.kmin_run.proofs.Common.{inl, inr, refl, RunState}
use Rattle.kmin_run.specs.between.StateRuns.{AreWordsRead}
use Rattle.kmin_run.proofs.Keeping.{keeps_unchanged}
use Rattle.kmin_run.proofs.RunEnds.{formed_since, words_at_most_six, words_stopped}
use Rattle.kmin_run.proofs.program.Program.run_words.Goals as goal

pub returns-in-Ok : goal.returns-in-Ok
returns-in-Ok g c =
    let self = c.args.self.now in
    let before : RunState = record {
      known = g.F.Files.surroundings self.files;
      counted = g.F.Files.failures self.files;
      input = record { left = g.I.Source.left self.input; failures = g.I.Source.failures self.input };
      outputs = record { disk = g.D.ReadDisk.disk self.disk; taken = g.O.Sink.taken self.out; failures = g.O.Sink.failures self.out };
    } in
    let read : AreWordsRead before _ _ _ _ = record {
      read = c.in-Ok.ensures.read;
      input = c.in-Ok.ensures.input;
      known = c.read_word_files.ensures.same;
      counted = c.in-Ok.ensures.unfailed;
      unfailed = c.in-Ok.ensures.input_unfailed;
      outputs = refl;
      untouched = c.read_word_files.ensures.untouched;
    } in
    let ends = c.run_given.ensures.ends before read in record {
      ends = (ends.0, ends.1, ends.2, formed_since ends.0 _ ends.1 _ _ _ _ _ _ c.in-Ok.ensures.unreported ends.3);
      keeps = c.run_given.ensures.keeps before read;
    }

pub returns-in-Err : goal.returns-in-Err
returns-in-Err g c =
    let stopped = c.in-Err.ensures.stopped in record {
      ends = words_stopped _ _ _ _ _ _ _ _ _ refl stopped;
      keeps =
          keeps_unchanged _ _ _ refl (words_at_most_six _ _ _ _ _ stopped.1)
          (λ five. elim (c.in-Err.ensures.failed five) [ inl rose ↦ inl rose | inr rose ↦ inr (inl rose) ]);
    }

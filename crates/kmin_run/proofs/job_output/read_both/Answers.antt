use Rattle.kmin_run.proofs.Common.{[], ◌∷◌, ◌∙◌, refl, arith, rises_later, no_value, with_error}
use Rattle.kmin_outputs.proofs.Sequences.{stopped_more, stopped_later}
use Rattle.kmin_run.proofs.job_output.read_both.Goals as goal

pub returns-in_err-before : goal.returns-in_err-before
returns-in_err-before g c =
    let content_of = (g.F.Files.surroundings c.args.files.now).content in
    record {
      same = c.configured_by.ensures.same;
      settled = no_value c.from_residual.result _ _ c.from_residual.ensures.1;
      solved = no_value c.from_residual.result _ _ c.from_residual.ensures.1;
      loaded = no_value c.from_residual.result _ _ c.from_residual.ensures.1;
      stopped = with_error c.from_residual.result _ _ c.from_residual.ensures.1
          (stopped_more content_of _ _ _ _ _ _ _ _ (c.args.left.now ∷ []) (c.args.right.now ∷ []) _ refl c.in_err-before.ensures.stopped);
      rising = c.configured_by.ensures.rising;
      failed = with_error c.from_residual.result _ _ c.from_residual.ensures.1 c.in_err-before.ensures.failed;
    }

pub returns-in-Ok : goal.returns-in-Ok
returns-in-Ok g c = record {
  same = c.configured_by-2.ensures.same ∙ c.configured_by.ensures.same;
  settled = (c.in_ok-before.ensures.settled, c.in-Ok.ensures.settled);
  solved = (c.in_ok-before.ensures.solved, c.in-Ok.ensures.solved);
  loaded = record {
    between = _;
    failed_between = _;
    left_read = c.in_ok-before.ensures.loaded;
    right_read = rw c.configured_by.ensures.same at c.in-Ok.ensures.loaded;
  };
  stopped = tt;
  rising = omega (arith, c.configured_by.ensures.rising, c.configured_by-2.ensures.rising);
  failed = tt;
}

pub returns-in-Err : goal.returns-in-Err
returns-in-Err g c = record {
  same = c.configured_by-2.ensures.same ∙ c.configured_by.ensures.same;
  settled = tt;
  solved = tt;
  loaded = tt;
  stopped =
      stopped_later (g.F.Files.surroundings c.args.files.now).content _ _ _ _ _ _ _ _ (c.args.left.now ∷ []) (c.args.right.now ∷ []) _ _ _ _ _ refl
      c.in_ok-before.ensures.loaded.loaded (rw c.configured_by.ensures.same at c.in-Err.ensures.stopped);
  rising = omega (arith, c.configured_by.ensures.rising, c.configured_by-2.ensures.rising);
  failed = λ five.
      rises_later (g.F.Files.failures c.args.files.now) (g.F.Files.failures c.configured_by.new.files) (g.F.Files.failures c.configured_by-2.new.files)
      c.configured_by.ensures.rising c.configured_by-2.ensures.rising (c.in-Err.ensures.failed five);
}

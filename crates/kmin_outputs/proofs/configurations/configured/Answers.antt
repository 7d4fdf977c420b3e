use Rattle.kmin_outputs.proofs.Common.{◌∷◌, ◌∙◌, [], List, ℕ, map, refl, arith, Bor, if_err_map, memory_err, rises_later, no_value}
use Rattle.kmin_report.specs.StandardError as taking
use Rattle.kmin_outputs.specs.Stops as stops
use Rattle.kmin_outputs.specs.Outputs as outputs
use Rattle.kmin_outputs.proofs.Sequences.{read_none, read_rest, stopped_more, stopped_later, mapped}
use Rattle.kmin_outputs.proofs.ErrorExits.{with_error}
use Rattle.kmin_outputs.proofs.configurations.configured.Goals as goal

pub returns-in_default : goal.returns-in_default
returns-in_default g c = record {
  same = refl;
  settled = c.in_ok-unassigned.ensures.settled;
  solved = c.in_ok-unassigned.ensures.solved;
  loaded = read_none _ _ _ _ c.args.paths.now _ _ _ _ _ _ c.in_default.ensures.cases c.in_ok-unassigned.ensures.users c.in_ok-unassigned.ensures.chosen;
  stopped = tt;
  rising = omega arith;
  failed = tt;
}

pub returns-in_err-unassigned : goal.returns-in_err-unassigned
returns-in_err-unassigned g c =
    record {
      same = refl;
      settled = no_value c.from_residual.result _ _ c.from_residual.ensures.1;
      solved = no_value c.from_residual.result _ _ c.from_residual.ensures.1;
      loaded = no_value c.from_residual.result _ _ c.from_residual.ensures.1;
      stopped = memory_err _ _ c.from_residual.ensures (λ stop status. ([], stops.for_memory [] _ [] refl outputs.none status refl, taking.none));
      rising = omega arith;
      failed = memory_err _ _ c.from_residual.ensures (λ stop status. λ five. absurd (omega arith));
    }

pub returns-in_err-read : goal.returns-in_err-read
returns-in_err-read g c =
    let content_of = (g.F.Files.surroundings c.args.files.now).content in
    record {
      same = c.configured_by.ensures.same;
      settled = no_value c.from_residual-in_err-read.result _ _ c.from_residual-in_err-read.ensures.1;
      solved = no_value c.from_residual-in_err-read.result _ _ c.from_residual-in_err-read.ensures.1;
      loaded = no_value c.from_residual-in_err-read.result _ _ c.from_residual-in_err-read.ensures.1;
      stopped = with_error c.from_residual-in_err-read.result _ _ c.from_residual-in_err-read.ensures.1
          (stopped_more content_of _ _ _ _ _ _ _ _ (c.in-Some.first.now.now ∷ []) (map (λ (p : Bor (List ℕ)). p.now) c.in-Some.others.now) _
          (mapped c.args.paths.now c.in-Some.first.now c.in-Some.others.now c.in-Some.ensures.cases.0) c.in_err-read.ensures.stopped);
      rising = c.configured_by.ensures.rising;
      failed = with_error c.from_residual-in_err-read.result _ _ c.from_residual-in_err-read.ensures.1 c.in_err-read.ensures.failed;
    }

pub returns : goal.returns
returns g c =
    let content_of = (g.F.Files.surroundings c.args.files.now).content in
    let these = mapped c.args.paths.now c.in-Some.first.now c.in-Some.others.now c.in-Some.ensures.cases.0 in record {
      same = c.overridden_by.ensures.same ∙ c.configured_by.ensures.same;
      settled = c.overridden_by.ensures.settled;
      solved = c.overridden_by.ensures.solved;
      loaded =
          read_rest content_of _ _ _ (c.in-Some.first.now.now ∷ [])
          (map (λ (p : Bor (List ℕ)). p.now) c.in-Some.others.now) _ _ c.in_ok-read.read.config.users _ _ _ _ _ _ _ _ c.overridden_by.result
          these c.in_ok-read.ensures.loaded
          (rw c.configured_by.ensures.same at c.overridden_by.ensures.loaded);
      stopped =
          if_err_map c.overridden_by.result _ _ (λ stop stopped.
          stopped_later content_of _ _ _ _ _ _ _ _ (c.in-Some.first.now.now ∷ [])
          (map (λ (p : Bor (List ℕ)). p.now) c.in-Some.others.now) _ _ c.in_ok-read.read.config.users _ _
          these c.in_ok-read.ensures.loaded.loaded
          stopped) (rw c.configured_by.ensures.same at c.overridden_by.ensures.stopped);
      rising = omega (arith, c.configured_by.ensures.rising, c.overridden_by.ensures.rising);
      failed = if_err_map c.overridden_by.result _ _ (λ stop failed. λ five.
          rises_later (g.F.Files.failures c.args.files.now) (g.F.Files.failures c.configured_by.new.files) (g.F.Files.failures c.overridden_by.new.files)
          c.configured_by.ensures.rising c.overridden_by.ensures.rising (failed five)) c.overridden_by.ensures.failed;
    }

pub overridden_by-requires-clause-settled : goal.overridden_by-requires-clause-settled
overridden_by-requires-clause-settled g c = c.in_ok-read.ensures.settled

pub overridden_by-requires-clause-solved : goal.overridden_by-requires-clause-solved
overridden_by-requires-clause-solved g c = c.in_ok-read.ensures.solved

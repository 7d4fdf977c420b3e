use Rattle.std.proofs.Common.{drop}
use Rattle.kmin_outputs.proofs.Common.{◌≡◌, ◌∷◌, [], ℕ, suc, List, get_or, refl, ◌∙◌, map, take, arith, rules, Bor, tree_of_settled, rises_later, no_value}
use Rattle.std.proofs.lemmas.List.{take_all}
use Rattle.kmin_outputs.proofs.Sequences.{read_none, read_append, stopped_more, stopped_later}
use Rattle.kmin_report.proofs.Lists.{paths_next, paths_at}
use Rattle.kmin_outputs.proofs.ErrorExits.{with_error}
use Rattle.kmin_outputs.proofs.configurations.overridden_by.Goals as goal

pub loop-path-init : goal.loop-path-init
loop-path-init g c = record {
  same = refl;
  rising = omega arith;
  settled = c.requires.settled;
  solved = c.requires.solved;
  loaded = read_none _ _ _ _ [] c.args.begun.config.users c.args.begun.config.users _ _ _ _ refl refl refl;
}

pub loop-path-preserved : goal.loop-path-preserved
loop-path-preserved g c =
    let content_of = (g.F.Files.surroundings c.args.files.now).content in
    let same = c.loop-path.invariant.same in
    let tree = tree_of_settled c.args.settled.now in
    let absent : Bor (List ℕ) = record { ref_ptr = (0, 0); now = [] } in
    let path = get_or c.args.paths.now c.loop-path.path-index absent in
    record {
      same = c.override_with_file.ensures.same ∙ c.loop-path.invariant.same;
      rising = omega (arith, c.override_with_file.ensures.rising, c.loop-path.invariant.rising);
      settled = c.in_ok-override_with_file.ensures.settled;
      solved = c.in_ok-override_with_file.ensures.solved;
      loaded = rw (paths_next c.args.paths.now c.loop-path.path-index absent (search rules))
          (read_append content_of _ _ tree _ (path.now ∷ []) c.args.begun.config.users c.loop-path.read.config.users _ _ _ _ _ _ _ _ _ _
          c.loop-path.invariant.loaded (rw same at c.in_ok-override_with_file.ensures.loaded));
    }

pub returns-in_err-override_with_file : goal.returns-in_err-override_with_file
returns-in_err-override_with_file g c =
    let content_of = (g.F.Files.surroundings c.args.files.now).content in
    let same = c.loop-path.invariant.same in
    let absent : Bor (List ℕ) = record { ref_ptr = (0, 0); now = [] } in
    let k = c.loop-path.path-index in
    let path = get_or c.args.paths.now k absent in
    record {
      same = c.override_with_file.ensures.same ∙ c.loop-path.invariant.same;
      settled = no_value c.from_residual.result _ _ c.from_residual.ensures.1;
      solved = no_value c.from_residual.result _ _ c.from_residual.ensures.1;
      loaded = no_value c.from_residual.result _ _ c.from_residual.ensures.1;
      stopped = with_error c.from_residual.result _ _ c.from_residual.ensures.1
          (stopped_later content_of _ _ _ _ _ _ _ _ (map (λ (p : Bor (List ℕ)). p.now) (take k c.args.paths.now))
          (path.now ∷ map (λ (p : Bor (List ℕ)). p.now) (drop (suc k) c.args.paths.now)) _ c.args.begun.config.users c.loop-path.read.config.users _ _
          (paths_at c.args.paths.now k absent (search rules)) c.loop-path.invariant.loaded.loaded
          (stopped_more content_of _ _ _ _ _ _ _ _ (path.now ∷ []) (map (λ (p : Bor (List ℕ)). p.now) (drop (suc k) c.args.paths.now)) _ refl
          (rw same at c.in_err-override_with_file.ensures.stopped)));
      rising = omega (arith, c.override_with_file.ensures.rising, c.loop-path.invariant.rising);
      failed = with_error c.from_residual.result _ _ c.from_residual.ensures.1 (λ five.
          rises_later (g.F.Files.failures c.args.files.now) (g.F.Files.failures c.loop-path.files) (g.F.Files.failures c.override_with_file.new.files)
          c.loop-path.invariant.rising c.override_with_file.ensures.rising (c.in_err-override_with_file.ensures.failed five));
    }

pub returns : goal.returns
returns g c =
    let all : take c.loop-path.path-index c.args.paths.now ≡ c.args.paths.now = take_all c.loop-path.path-index c.args.paths.now (omega arith) in record {
      same = c.loop-path.invariant.same;
      settled = c.loop-path.invariant.settled;
      solved = c.loop-path.invariant.solved;
      loaded = rw all at c.loop-path.invariant.loaded;
      stopped = tt;
      rising = c.loop-path.invariant.rising;
      failed = tt;
    }

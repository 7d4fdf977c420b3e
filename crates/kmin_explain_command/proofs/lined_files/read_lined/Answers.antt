use Rattle.std.proofs.Common.{suc, get_or, drop}
use Rattle.kmin_explain_command.proofs.Common.{◌≡◌, ◌∷◌, [], ℕ, List, refl, ◌∙◌, map, take, arith, rules, Bor, tree_of_settled, rises_later, memory_err, no_value, with_error}
use Rattle.std.proofs.lemmas.List.{take_all}
use Rattle.kmin_outputs.proofs.Sequences.{stopped_more, stopped_later}
use Rattle.kmin_explain_command.proofs.LinedFiles.{lined_none, lined_append}
use Rattle.kmin_explain_command.proofs.ReadFiles.{stopped_none}
use Rattle.kmin_report.proofs.Lists.{paths_next, paths_at}
use Rattle.kmin_explain_command.proofs.lined_files.read_lined.Goals as goal

pub loop-path-init : goal.loop-path-init
loop-path-init g c = record {
  same = refl;
  rising = omega arith;
  settled = c.in_ok-found.ensures.settled;
  solved = c.in_ok-found.ensures.solved;
  lined = lined_none _ _ _ _ [] _ _ _ _ _ _ _ _ refl c.in_ok-found.ensures.users c.in_ok-found.ensures.chosen c.in_ok-found.ensures.lines;
}

pub loop-path-preserved : goal.loop-path-preserved
loop-path-preserved g c =
    let content_of = (g.F.Files.surroundings c.args.files.now).content in
    let same = c.loop-path.invariant.same in
    let tree = tree_of_settled c.args.settled.now in
    let absent : Bor (List ℕ) = record { ref_ptr = (0, 0); now = [] } in
    let path = get_or c.args.paths.now c.loop-path.path-index absent in
    record {
      same = c.add_file.ensures.same ∙ c.loop-path.invariant.same;
      rising = omega (arith, c.add_file.ensures.rising, c.loop-path.invariant.rising);
      settled = c.in_ok-add_file.ensures.settled;
      solved = c.in_ok-add_file.ensures.solved;
      lined = rw (paths_next c.args.paths.now c.loop-path.path-index absent (search rules))
          (lined_append content_of _ _ tree _ (path.now ∷ []) _ c.loop-path.found.read.config.users _ _ _ _ _ _ _ _ _ _ _ _ _
          c.loop-path.invariant.lined (rw same at c.in_ok-add_file.ensures.lined));
    }

pub returns-in_err-add_file : goal.returns-in_err-add_file
returns-in_err-add_file g c =
    let content_of = (g.F.Files.surroundings c.args.files.now).content in
    let same = c.loop-path.invariant.same in
    let absent : Bor (List ℕ) = record { ref_ptr = (0, 0); now = [] } in
    let k = c.loop-path.path-index in
    let path = get_or c.args.paths.now k absent in
    record {
      same = c.add_file.ensures.same ∙ c.loop-path.invariant.same;
      settled = no_value c.from_residual-in_err-add_file.result _ _ c.from_residual-in_err-add_file.ensures.1;
      solved = no_value c.from_residual-in_err-add_file.result _ _ c.from_residual-in_err-add_file.ensures.1;
      lined = no_value c.from_residual-in_err-add_file.result _ _ c.from_residual-in_err-add_file.ensures.1;
      stopped = with_error c.from_residual-in_err-add_file.result _ _ c.from_residual-in_err-add_file.ensures.1
          (stopped_later content_of _ _ _ _ _ _ _ _ (map (λ (p : Bor (List ℕ)). p.now) (take k c.args.paths.now))
          (path.now ∷ map (λ (p : Bor (List ℕ)). p.now) (drop (suc k) c.args.paths.now)) _ _ c.loop-path.found.read.config.users _ _
          (paths_at c.args.paths.now k absent (search rules)) c.loop-path.invariant.lined.read.loaded
          (stopped_more content_of _ _ _ _ _ _ _ _ (path.now ∷ []) (map (λ (p : Bor (List ℕ)). p.now) (drop (suc k) c.args.paths.now)) _ refl
          (rw same at c.in_err-add_file.ensures.stopped)));
      rising = omega (arith, c.add_file.ensures.rising, c.loop-path.invariant.rising);
      failed = with_error c.from_residual-in_err-add_file.result _ _ c.from_residual-in_err-add_file.ensures.1 (λ five.
          rises_later (g.F.Files.failures c.args.files.now) (g.F.Files.failures c.loop-path.files) (g.F.Files.failures c.add_file.new.files)
          c.loop-path.invariant.rising c.add_file.ensures.rising (c.in_err-add_file.ensures.failed five));
    }

pub returns-in_err-found : goal.returns-in_err-found
returns-in_err-found g c =
    record {
      same = refl;
      settled = no_value c.from_residual.result _ _ c.from_residual.ensures.1;
      solved = no_value c.from_residual.result _ _ c.from_residual.ensures.1;
      lined = no_value c.from_residual.result _ _ c.from_residual.ensures.1;
      stopped = memory_err _ _ c.from_residual.ensures (λ stop status.
          stopped_none (g.F.Files.surroundings c.args.files.now).content _ _ _ (map (λ (p : Bor (List ℕ)). p.now) c.args.paths.now) _ _ _ status);
      rising = omega arith;
      failed = memory_err _ _ c.from_residual.ensures (λ stop status. λ five. absurd (omega arith));
    }

pub returns : goal.returns
returns g c =
    let all : take c.loop-path.path-index c.args.paths.now ≡ c.args.paths.now = take_all c.loop-path.path-index c.args.paths.now (omega arith) in record {
      same = c.loop-path.invariant.same;
      settled = c.loop-path.invariant.settled;
      solved = c.loop-path.invariant.solved;
      lined = rw all at c.loop-path.invariant.lined;
      stopped = tt;
      rising = c.loop-path.invariant.rising;
      failed = tt;
    }

use Rattle.kmin_outputs.proofs.Common.{[], ◌∷◌, refl, arith, tree_of_settled, memory_err, no_success}
use Rattle.kmin_outputs.proofs.Sequences.{loaded_one, read_one, stopped_path, stopped_for_memory}
use Rattle.kmin_outputs.proofs.ErrorExits.{with_error}
use Rattle.kmin_outputs.proofs.configurations.override_with_file.Goals as goal

pub returns-in_err-fragment : goal.returns-in_err-fragment
returns-in_err-fragment g c =
    record {
      same = c.load_path.ensures.same;
      settled = no_success c.from_residual.result _ _ c.from_residual.ensures.1;
      solved = no_success c.from_residual.result _ _ c.from_residual.ensures.1;
      loaded = no_success c.from_residual.result _ _ c.from_residual.ensures.1;
      stopped = with_error c.from_residual.result _ _ c.from_residual.ensures.1 (stopped_path (g.F.Files.surroundings c.args.files.now).content _ _ _ _ _ _ _ _ c.args.path.now c.in_err-fragment.ensures.stopped);
      rising = c.load_path.ensures.rising;
      failed = with_error c.from_residual.result _ _ c.from_residual.ensures.1 c.in_err-fragment.ensures.failed;
    }

pub returns-in_err-add_fragment : goal.returns-in_err-add_fragment
returns-in_err-add_fragment g c =
    let content_of = (g.F.Files.surroundings c.args.files.now).content in
    let tree = tree_of_settled c.args.settled.now in
    record {
      same = c.load_path.ensures.same;
      settled = no_success c.from_residual-in_err-add_fragment.result _ _ c.from_residual-in_err-add_fragment.ensures.1;
      solved = no_success c.from_residual-in_err-add_fragment.result _ _ c.from_residual-in_err-add_fragment.ensures.1;
      loaded = no_success c.from_residual-in_err-add_fragment.result _ _ c.from_residual-in_err-add_fragment.ensures.1;
      stopped = memory_err _ _ c.from_residual-in_err-add_fragment.ensures (λ stop status.
          stopped_for_memory content_of _ _ tree _ _ _ _ _ (c.args.path.now ∷ []) [] _ c.args.read.now.config.users _ refl status
          (loaded_one content_of _ _ tree c.args.path.now c.args.read.now.config.users _ c.in_ok-fragment.fragment _ _ _ _ c.in_ok-fragment.ensures.loaded
          c.in_ok-fragment.ensures.allowed refl));
      rising = c.load_path.ensures.rising;
      failed = memory_err _ _ c.from_residual-in_err-add_fragment.ensures (λ stop status. λ five. absurd (omega arith));
    }

pub returns : goal.returns
returns g c =
    let tree = tree_of_settled c.args.settled.now in
    let users = rw c.requires at c.in_ok-add_fragment.ensures.users in record {
      same = c.load_path.ensures.same;
      settled = rw c.requires at c.add_fragment.ensures.settled;
      solved = c.add_fragment.ensures.solved;
      loaded =
          read_one (g.F.Files.surroundings c.args.files.now).content _ _ tree c.args.path.now _ _ c.in_ok-fragment.fragment _ _ _ _ _ _
          c.in_ok-fragment.ensures.loaded c.in_ok-fragment.ensures.allowed users c.in_ok-add_fragment.ensures.chosen;
      stopped = tt;
      rising = c.load_path.ensures.rising;
      failed = tt;
    }

use Rattle.kmin_explain_command.proofs.Common.{[], ◌∷◌, refl, arith, tree_of_settled, memory_err, stopped_for_memory, no_success, with_error}
use Rattle.kmin_outputs.proofs.Sequences.{loaded_one}
use Rattle.kmin_explain_command.proofs.LinedFiles.{lined_one}
use Rattle.kmin_explain_command.proofs.lined_files.add_file.Goals as goal

pub returns-in_err-file : goal.returns-in_err-file
returns-in_err-file g c =
    record {
      same = c.read_file.ensures.same;
      settled = no_success c.from_residual.result _ _ c.from_residual.ensures.1;
      solved = no_success c.from_residual.result _ _ c.from_residual.ensures.1;
      lined = no_success c.from_residual.result _ _ c.from_residual.ensures.1;
      stopped = with_error c.from_residual.result _ _ c.from_residual.ensures.1 c.in_err-file.ensures.stopped;
      rising = c.read_file.ensures.rising;
      failed = with_error c.from_residual.result _ _ c.from_residual.ensures.1 c.in_err-file.ensures.failed;
    }

pub returns-in_err-add_lined : goal.returns-in_err-add_lined
returns-in_err-add_lined g c =
    let content_of = (g.F.Files.surroundings c.args.files.now).content in
    let tree = tree_of_settled c.args.settled.now in
    record {
      same = c.read_file.ensures.same;
      settled = no_success c.from_residual-in_err-add_lined.result _ _ c.from_residual-in_err-add_lined.ensures.1;
      solved = no_success c.from_residual-in_err-add_lined.result _ _ c.from_residual-in_err-add_lined.ensures.1;
      lined = no_success c.from_residual-in_err-add_lined.result _ _ c.from_residual-in_err-add_lined.ensures.1;
      stopped = memory_err _ _ c.from_residual-in_err-add_lined.ensures (λ stop status.
          stopped_for_memory content_of _ _ tree _ _ _ _ _ (c.args.path.now ∷ []) [] _ c.args.found.now.read.config.users _ refl status
          (loaded_one content_of _ _ tree c.args.path.now c.args.found.now.read.config.users _ c.in_ok-file.file.fragment _ _ _ _
          c.in_ok-file.ensures.lined.loaded c.in_ok-file.ensures.allowed refl));
      rising = c.read_file.ensures.rising;
      failed = memory_err _ _ c.from_residual-in_err-add_lined.ensures (λ stop status. λ five. absurd (omega arith));
    }

pub returns : goal.returns
returns g c =
    let tree = tree_of_settled c.args.settled.now in
    let users = rw c.requires at c.in_ok-add_lined.ensures.users in record {
      same = c.read_file.ensures.same;
      settled = rw c.requires at c.add_lined.ensures.settled;
      solved = c.in_ok-add_lined.ensures.solved;
      lined =
          lined_one (g.F.Files.surroundings c.args.files.now).content _ _ tree c.args.path.now _ _ c.in_ok-file.file.fragment c.in_ok-file.file.lines _ _ _ _ _ _ _ _
          c.in_ok-file.ensures.lined c.in_ok-file.ensures.allowed users c.in_ok-add_lined.ensures.chosen c.in_ok-add_lined.ensures.lines;
      stopped = tt;
      rising = c.read_file.ensures.rising;
      failed = tt;
    }

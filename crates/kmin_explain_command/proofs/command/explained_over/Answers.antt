use Rattle.kmin_explain_command.proofs.Common.{rules, arith, if_err_map, no_value, with_error}
use Rattle.kmin_explain_command.proofs.OverEnds.{explains_over, stops_over, stops_among, unfailed}
use Rattle.kmin_explain_command.proofs.command.explained_over.Goals as goal

pub returns-in_err-found : goal.returns-in_err-found
returns-in_err-found g c =
    record {
      status = no_value c.from_residual.result _ _ c.from_residual.ensures.1;
      output = no_value c.from_residual.result _ _ c.from_residual.ensures.1;
      stopped = with_error c.from_residual.result _ _ c.from_residual.ensures.1
          (stops_among (g.F.Files.surroundings c.args.files.now).content c.args.job.now c.args.tree.now _ _ _ _ _ (rw c.deref.ensures.value at c.in_err-found.ensures.stopped));
      rising = c.read_lined.ensures.rising;
      failed = with_error c.from_residual.result _ _ c.from_residual.ensures.1 c.in_err-found.ensures.failed;
    }

pub explained_files-output-requires-clause-system : goal.explained_files-output-requires-clause-system
explained_files-output-requires-clause-system g c = c.in_ok-found.ensures.settled

pub returns : goal.returns
returns g c =
    let content_of = (g.F.Files.surroundings c.args.files.now).content in
    let lined = rw c.deref.ensures.value at c.in_ok-found.ensures.lined in
    let output = c.explained_files-output.result in record {
      status = c.explained_files-output.ensures.status;
      output =
          explains_over content_of c.args.job.now c.args.tree.now c.in_ok-found.found _ _ _ _ _ _ c.in_ok-found.ensures.settled c.requires.profile
          c.in_ok-found.ensures.solved lined output c.explained_files-output.ensures.output c.explained_files-output.ensures.noticed;
      stopped =
          stops_over content_of c.args.job.now c.args.tree.now c.in_ok-found.found _ _ _ _ _ _ c.in_ok-found.ensures.settled c.requires.profile
          c.in_ok-found.ensures.solved lined output c.explained_files-output.ensures.stopped;
      rising = c.read_lined.ensures.rising;
      failed = if_err_map output _ _ (λ stop stopped. λ five. absurd (unfailed _ _ _ _ _ _ _ _ stopped five)) c.explained_files-output.ensures.stopped;
    }

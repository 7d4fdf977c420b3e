use Rattle.kmin_trees.proofs.Common.{sym, ap, ◌∙◌, no_value, names_by_number}
use Rattle.kmin_trees.proofs.ErrorExits.{with_error, memory_stops, memory_unfailed}
use Rattle.kmin_trees.proofs.lined_trees.job_tree_with_lines.Goals as goal

pub returns-in_err-settled : goal.returns-in_err-settled
returns-in_err-settled g c = record {
  same = c.kept_tree.ensures.same;
  accepted = no_value c.from_residual.result _ _ c.from_residual.ensures.1;
  profile = no_value c.from_residual.result _ _ c.from_residual.ensures.1;
  stopped = with_error c.from_residual.result _ _ c.from_residual.ensures.1 c.in_err-settled.ensures.stopped;
  rising = c.kept_tree.ensures.rising;
  failed = with_error c.from_residual.result _ _ c.from_residual.ensures.1 c.in_err-settled.ensures.failed;
}

pub returns-in_err-paths : goal.returns-in_err-paths
returns-in_err-paths g c =
    let a = c.in_ok-settled.ensures.accepted in record {
      same = c.kept_tree.ensures.same;
      accepted = no_value c.from_residual-in_err-paths.result _ _ c.from_residual-in_err-paths.ensures.1;
      profile = no_value c.from_residual-in_err-paths.result _ _ c.from_residual-in_err-paths.ensures.1;
      stopped = memory_stops c.from_residual-in_err-paths.result _ _ _ _ a.0 _ _ _ _ c.from_residual-in_err-paths.ensures a.1 a.3;
      rising = c.kept_tree.ensures.rising;
      failed = memory_unfailed c.from_residual-in_err-paths.result _ _ c.from_residual-in_err-paths.ensures;
    }

pub returns : goal.returns
returns g c =
    let a = c.in_ok-settled.ensures.accepted in record {
      same = c.kept_tree.ensures.same;
      accepted = (
        a.0,
        a.1,
        record { accepted = a.2.accepted; lines = a.2.lines; paths = c.in_ok-paths.ensures ∙ ap names_by_number (c.of_tree.ensures.names ∙ sym a.2.names) },
        a.3,
      );
      profile = c.in_ok-settled.ensures.profile;
      stopped = tt;
      rising = c.kept_tree.ensures.rising;
      failed = tt;
    }

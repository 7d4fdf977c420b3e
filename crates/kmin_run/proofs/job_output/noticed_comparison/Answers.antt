use Rattle.kmin_run.proofs.Common.{ap, tree_of_settled, profile_of, memory_err, no_value, with_error}
use Rattle.kmin_outputs.specs.between.Comparisons.{at_left, at_right, comparing_output}
use Rattle.kmin_run.proofs.job_output.noticed_comparison.Goals as goal

pub returns-in_err-notice_choices : goal.returns-in_err-notice_choices
returns-in_err-notice_choices g c =
    record {
      text = no_value c.from_residual.result _ _ c.from_residual.ensures.1;
      status = no_value c.from_residual.result _ _ c.from_residual.ensures.1;
      noticed = no_value c.from_residual.result _ _ c.from_residual.ensures.1;
      stopped = with_error c.from_residual.result _ _ c.from_residual.ensures.1 (at_left c.in_err-notice_choices.ensures.stopped);
    }

pub returns-in_err-notice_choices-2 : goal.returns-in_err-notice_choices-2
returns-in_err-notice_choices-2 g c =
    record {
      text = no_value c.from_residual-in_err-notice_choices-2.result _ _ c.from_residual-in_err-notice_choices-2.ensures.1;
      status = no_value c.from_residual-in_err-notice_choices-2.result _ _ c.from_residual-in_err-notice_choices-2.ensures.1;
      noticed = no_value c.from_residual-in_err-notice_choices-2.result _ _ c.from_residual-in_err-notice_choices-2.ensures.1;
      stopped = with_error c.from_residual-in_err-notice_choices-2.result _ _ c.from_residual-in_err-notice_choices-2.ensures.1 (at_right _ _
          (record { allowed = c.in_ok-notice_choices.ensures.allowed; noticed = c.in_ok-notice_choices.ensures.noticed })
          c.in_err-notice_choices-2.ensures.stopped);
    }

pub returns-in_err-compared : goal.returns-in_err-compared
returns-in_err-compared g c =
    record {
      text = no_value c.from_residual-in_err-compared.result _ _ c.from_residual-in_err-compared.ensures.1;
      status = no_value c.from_residual-in_err-compared.result _ _ c.from_residual-in_err-compared.ensures.1;
      noticed = no_value c.from_residual-in_err-compared.result _ _ c.from_residual-in_err-compared.ensures.1;
      stopped = memory_err _ _ c.from_residual-in_err-compared.ensures (λ stop status. comparing_output (record {
        between = _;
        failed_between = _;
        left_noticed = record { allowed = c.in_ok-notice_choices.ensures.allowed; noticed = c.in_ok-notice_choices.ensures.noticed };
        right_noticed = record { allowed = c.in_ok-notice_choices-2.ensures.allowed; noticed = c.in_ok-notice_choices-2.ensures.noticed };
      }) status);
    }

pub returns : goal.returns
returns g c = record {
  text = c.in_ok-compared.ensures.text;
  status = c.in_ok-compared.ensures.status;
  noticed = record {
    between = _;
    failed_between = _;
    left_noticed = record { allowed = c.in_ok-notice_choices.ensures.allowed; noticed = c.in_ok-notice_choices.ensures.noticed };
    right_noticed = record { allowed = c.in_ok-notice_choices-2.ensures.allowed; noticed = c.in_ok-notice_choices-2.ensures.noticed };
  };
  stopped = tt;
}

pub compared-requires-clause-tree : goal.compared-requires-clause-tree
compared-requires-clause-tree g c = ap tree_of_settled c.requires

pub compared-requires-clause-profile : goal.compared-requires-clause-profile
compared-requires-clause-profile g c = ap profile_of c.requires

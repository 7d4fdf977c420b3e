use Rattle.kmin_run.proofs.Common.{memory_err, no_value, with_error}
use Rattle.kmin_outputs.specs.between.Comparisons.{at_the_choices, producing_output}
use Rattle.kmin_run.proofs.job_output.noticed_output.Goals as goal

pub returns-in_err-notice_choices : goal.returns-in_err-notice_choices
returns-in_err-notice_choices g c =
    record {
      text = no_value c.from_residual.result _ _ c.from_residual.ensures.1;
      status = no_value c.from_residual.result _ _ c.from_residual.ensures.1;
      noticed = no_value c.from_residual.result _ _ c.from_residual.ensures.1;
      stopped = with_error c.from_residual.result _ _ c.from_residual.ensures.1 (at_the_choices c.in_err-notice_choices.ensures.stopped);
    }

pub returns-in_err-output_of_verb : goal.returns-in_err-output_of_verb
returns-in_err-output_of_verb g c =
    record {
      text = no_value c.from_residual-in_err-output_of_verb.result _ _ c.from_residual-in_err-output_of_verb.ensures.1;
      status = no_value c.from_residual-in_err-output_of_verb.result _ _ c.from_residual-in_err-output_of_verb.ensures.1;
      noticed = no_value c.from_residual-in_err-output_of_verb.result _ _ c.from_residual-in_err-output_of_verb.ensures.1;
      stopped = memory_err _ _ c.from_residual-in_err-output_of_verb.ensures (λ stop status. producing_output (record { allowed = c.in_ok-notice_choices.ensures.allowed; noticed = c.in_ok-notice_choices.ensures.noticed }) status);
    }

pub returns : goal.returns
returns g c = record {
  text = c.in_ok-output_of_verb.ensures.text;
  status = c.in_ok-output_of_verb.ensures.status;
  noticed = record { allowed = c.in_ok-notice_choices.ensures.allowed; noticed = c.in_ok-notice_choices.ensures.noticed };
  stopped = tt;
}

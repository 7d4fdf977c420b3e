use Rattle.kmin_run.proofs.Common.{ap, Err, none, value_is_no_error}
use Rattle.kmin_run.proofs.output_file.save_text.Goals as goal

pub returns-in-Ok-clause-saved : goal.returns-in-Ok-clause-saved
returns-in-Ok-clause-saved g c = record {
  updates = c.in-Ok.ensures.ok;
  regular = λ special. value_is_no_error _ _ (c.in-Ok.ensures.refused special);
  unfailed = c.in-Ok.ensures.failures;
}

pub returns-in-Ok-clause-unreported : goal.returns-in-Ok-clause-unreported
returns-in-Ok-clause-unreported g c = none

pub returns-in-Err-clause-unsaved : goal.returns-in-Err-clause-unsaved
returns-in-Err-clause-unsaved g c = (
  c.in-Err.fault,
  record {
    leaves = c.in-Err.ensures.err;
    equal = c.in-Err.ensures.equal;
    not_regular = λ is. c.in-Err.ensures.not_regular (ap Err is);
    refused = λ special. (let h = c.in-Err.ensures.refused special in cc);
    failures = c.in-Err.ensures.failures;
  },
  c.report_update.ensures.status,
  c.report_update.ensures.reported,
)

use Rattle.kmin_run.proofs.Common.{None, refl, last_lines}
use Rattle.kmin_run.specs.Runs.{form_asked}
use Rattle.kmin_run.specs.between.StateRuns.{formed, for_memory}
use Rattle.kmin_run.proofs.Keeping.{keeps_forgotten}
use Rattle.kmin_run.proofs.program.Program.run_formed.Goals as goal

pub returns-in-Ok-clause-ends : goal.returns-in-Ok-clause-ends
returns-in-Ok-clause-ends g c =
    let ends = rw (c.in-Ok.ensures.set, c.set_form_for.ensures.failures) at c.run_parsed.ensures.ends in
    (form_asked c.args.parsed.now, ends.0, formed refl ends.1, ends.2)

pub returns-in-Err : goal.returns-in-Err
returns-in-Err g c = record {
  ends = (
    None,
    last_lines c.exit_status.result,
    for_memory c.exit_status.ensures.status refl refl refl,
    rw (c.in-Err.ensures.unset, c.set_form_for.ensures.failures) at c.exit_status.ensures.reported,
  );
  keeps = keeps_forgotten _ _ _ refl c.exit_status.ensures.status;
}

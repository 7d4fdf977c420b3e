use Rattle.kmin_tidy.proofs.Common.{refl, ap, Err, if_ok_map, if_err_map}
use Rattle.kmin_tidy.specs.checker.FileResults.{in_place}
use Rattle.kmin_tidy.proofs.FileLemmas.{written_by, stopped_by}
use Rattle.kmin_tidy.proofs.file_step.write_file.Goals as goal

pub returns-in-Ok-clause-written : goal.returns-in-Ok-clause-written
returns-in-Ok-clause-written g c = in_place c.in-Ok.ensures.ok c.in-Ok.ensures.failures refl refl refl

pub returns-in-Err-clause-written : goal.returns-in-Err-clause-written
returns-in-Err-clause-written g c =
    if_ok_map c.end_of_fault.result _ _ (λ end h.
    written_by (g.D.ReadDisk.disk c.args.disk.now) (g.D.ReadDisk.disk c.replace.new.disk) c.args.path.now c.args.minimal_bytes.now c.in-Err.fault end
    c.in-Err.ensures.err c.in-Err.ensures.failures (λ e. c.in-Err.ensures.not_regular (ap Err e)) (λ e. c.in-Err.ensures.names_taken (ap Err e)) h)
    c.end_of_fault.ensures.failed

pub returns-in-Err-clause-stopped : goal.returns-in-Err-clause-stopped
returns-in-Err-clause-stopped g c =
    if_err_map c.end_of_fault.result _ _ (λ stop h.
    stopped_by (g.D.ReadDisk.disk c.args.disk.now) (g.D.ReadDisk.disk c.replace.new.disk) c.args.path.now c.args.minimal_bytes.now c.in-Err.fault stop
    c.in-Err.ensures.err c.in-Err.ensures.failures h) c.end_of_fault.ensures.stopped

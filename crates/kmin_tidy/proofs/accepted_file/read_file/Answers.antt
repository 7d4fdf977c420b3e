use Rattle.kmin_tidy.proofs.Common.{◌≡◌, ◌∙◌, refl, inr, subst, Disk, FailsOnce, MayFailOnce, if_ok_map, if_err_map, unopened}
use Rattle.kmin_tidy.proofs.ClosedFiles.{same_disk}
use Rattle.kmin_report.proofs.Results.{on_ok_map}
use Rattle.kmin_tidy.proofs.accepted_file.read_file.Goals as goal

pub returns-in-Some-clause-ok : goal.returns-in-Some-clause-ok
returns-in-Some-clause-ok g c = if_ok_map c.read_opened.result _ _ (λ file h. h _ c.in-Some.ensures.opens) c.read_opened.ensures.ok

pub returns-in-Some-clause-fault : goal.returns-in-Some-clause-fault
returns-in-Some-clause-fault g c = if_err_map c.read_opened.result _ _ (λ fault h. h _ c.in-Some.ensures.opens) c.read_opened.ensures.fault

pub returns-in-Some-clause-unfailed : goal.returns-in-Some-clause-unfailed
returns-in-Some-clause-unfailed g c =
    let a = g.D.ReadDisk.disk c.args.disk.now in
    let b = g.D.ReadDisk.disk c.open.new.self in
    on_ok_map c.read_opened.result _ _ (λ is. is ∙ same_disk a b c.in-Some.ensures.same c.in-Some.ensures.failures) c.read_opened.ensures.unfailed

pub returns-in-Some-clause-failed : goal.returns-in-Some-clause-failed
returns-in-Some-clause-failed g c =
    let a = g.D.ReadDisk.disk c.args.disk.now in
    let b = g.D.ReadDisk.disk c.open.new.self in
    let after = g.D.ReadDisk.disk c.read_opened.new.disk in
    let opened : b ≡ a = same_disk a b c.in-Some.ensures.same c.in-Some.ensures.failures in
    if_err_map c.read_opened.result _ _ (λ fault h. λ read. subst (λ (d : Disk). FailsOnce d after) opened (h read)) c.read_opened.ensures.failed

pub returns-in-Some-clause-once : goal.returns-in-Some-clause-once
returns-in-Some-clause-once g c =
    let a = g.D.ReadDisk.disk c.args.disk.now in
    let b = g.D.ReadDisk.disk c.open.new.self in
    let after = g.D.ReadDisk.disk c.read_opened.new.disk in
    subst (λ (d : Disk). MayFailOnce d after) (same_disk a b c.in-Some.ensures.same c.in-Some.ensures.failures) c.read_opened.ensures.once

pub returns-in-None-clause-fault : goal.returns-in-None-clause-fault
returns-in-None-clause-fault g c = unopened c.in-None.ensures.opens refl refl

pub returns-in-None-clause-failed : goal.returns-in-None-clause-failed
returns-in-None-clause-failed g c = λ read. record { same = c.in-None.ensures.same; failures = c.in-None.ensures.failures }

pub returns-in-None-clause-once : goal.returns-in-None-clause-once
returns-in-None-clause-once g c = inr (record { same = c.in-None.ensures.same; failures = c.in-None.ensures.failures })

use Rattle.kmin_report.proofs.Results.{if_err_map, on_ok_map}
use Rattle.kmin_tidy.proofs.ClosedFiles.{closed_unfailed, closed_failed, closed_once}
use Rattle.kmin_tidy.proofs.accepted_file.read_opened.Goals as goal

pub returns-clause-unfailed : goal.returns-clause-unfailed
returns-clause-unfailed g c =
    on_ok_map c.read_source-read.result _ _ (closed_unfailed (g.D.ReadDisk.disk c.args.disk.now) (g.D.ReadDisk.disk c.close.new.self) _ _
    c.requires.unread c.close.ensures.same c.close.ensures.failures) c.read_source-read.ensures.unfailed

pub returns-clause-failed : goal.returns-clause-failed
returns-clause-failed g c =
    if_err_map c.read_source-read.result _ _ (λ fault h. λ read. closed_failed (g.D.ReadDisk.disk c.args.disk.now) (g.D.ReadDisk.disk c.close.new.self) _ _
    c.requires.unread c.close.ensures.same c.close.ensures.failures (h read)) c.read_source-read.ensures.failed

pub returns-clause-once : goal.returns-clause-once
returns-clause-once g c =
    closed_once (g.D.ReadDisk.disk c.args.disk.now) (g.D.ReadDisk.disk c.close.new.self) _ _ c.requires.unread c.close.ensures.same
    c.close.ensures.failures c.read_source-read.ensures.once

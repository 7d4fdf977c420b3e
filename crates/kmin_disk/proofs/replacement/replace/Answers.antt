use Rattle.std.proofs.Common.{rules, sym, subst}
use Rattle.kmin_disk.specs.Disks.{DiskState}
use Rattle.kmin_disk.specs.NewFiles.{Removes, Renames}
use Rattle.kmin_disk.proofs.Places.{replaces_by_rename, unchanged_by_removal}
use Rattle.kmin_disk.proofs.replacement.replace.Goals as goal

pub returns-in-Ok-sync_folder-clause-ok : goal.returns-in-Ok-sync_folder-clause-ok
returns-in-Ok-sync_folder-clause-ok g c =
    let fills = c.in-Ok.ensures.renamed in
    let renames = subst (λ (s : DiskState). Renames (g.D.ReadDisk.disk c.create_beside.new.disk).state s fills.filled)
    (sym c.sync_folder.ensures.same) fills.renames in
    replaces_by_rename _ _ _ _ _ c.args.bytes.now _ fills.filled c.in_ok-new.ensures.made fills.takes renames

pub returns-in-Ok-clause-err : goal.returns-in-Ok-clause-err
returns-in-Ok-clause-err g c =
    let fills = c.in-Ok.ensures.renamed in
    let renames = subst (λ (s : DiskState). Renames (g.D.ReadDisk.disk c.create_beside.new.disk).state s fills.filled)
    (sym c.sync_folder.ensures.same) fills.renames in
    replaces_by_rename _ _ _ _ _ c.args.bytes.now _ fills.filled c.in_ok-new.ensures.made fills.takes renames

pub returns-in-Ok-remove-clause-err : goal.returns-in-Ok-remove-clause-err
returns-in-Ok-remove-clause-err g c =
    let removes = subst (λ (s : DiskState). Removes s (g.D.ReadDisk.disk c.remove.new.self).state (g.D.WriteDisk.draft c.in-Err.new)) c.in-Err.ensures.err
    c.in-Ok-remove.ensures.removed in
    unchanged_by_removal _ _ _ _ _ _ (g.D.WriteDisk.draft c.in-Err.new) c.in_ok-new.ensures.made c.in-Err.ensures.returned removes

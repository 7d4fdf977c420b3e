use Rattle.kmin_tidy.proofs.Common.{List, [], IfOk, IfErr, subst, Settled, settings_of, Tidies, paths_of, TakesLines, none, ErrorLine, StopsRun}
use Rattle.kmin_tidy.proofs.WholeRuns.{stops_first, memory_stop}
use Rattle.kmin_tidy.proofs.whole_run.tidy_all.Goals as goal

pub returns-clause-run : goal.returns-clause-run
returns-clause-run g c =
    subst (λ (sys : Settled). IfOk c.tidy_each.result (λ tidied. (reports : List ErrorLine)
    × Tidies (settings_of sys c.args.by.now.format.now c.args.by.now.options) (g.D.ReadDisk.disk c.args.disk.now) (g.D.ReadDisk.disk c.tidy_each.new.disk)
    (paths_of c.args.paths.now) tidied.text.items reports tidied.status
    × TakesLines (g.E.Messages.taken c.args.err.now) (g.E.Messages.failures c.args.err.now) reports (g.E.Messages.taken c.tidy_each.new.err)
    (g.E.Messages.failures c.tidy_each.new.err)))
    c.in_ok-config.ensures.settled c.tidy_each.ensures.run

pub returns-clause-stopped : goal.returns-clause-stopped
returns-clause-stopped g c =
    subst (λ (sys : Settled). IfErr c.tidy_each.result (λ stop. (reports : List ErrorLine)
    × StopsRun (settings_of sys c.args.by.now.format.now c.args.by.now.options) (g.D.ReadDisk.disk c.args.disk.now)
    (g.D.ReadDisk.disk c.tidy_each.new.disk) (paths_of c.args.paths.now) reports stop
    × TakesLines (g.E.Messages.taken c.args.err.now) (g.E.Messages.failures c.args.err.now) reports (g.E.Messages.taken c.tidy_each.new.err)
    (g.E.Messages.failures c.tidy_each.new.err)))
    c.in_ok-config.ensures.settled c.tidy_each.ensures.stopped

pub returns-in_err-config-clause-stopped : goal.returns-in_err-config-clause-stopped
returns-in_err-config-clause-stopped g c =
    let s = settings_of c.args.settled.now c.args.by.now.format.now c.args.by.now.options in
    let a = g.D.ReadDisk.disk c.args.disk.now in
    memory_stop c.from_residual.result _ c.from_residual.ensures ([], stops_first s a (paths_of c.args.paths.now), none)

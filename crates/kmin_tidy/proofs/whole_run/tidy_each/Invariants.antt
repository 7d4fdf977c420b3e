use Rattle.kmin_tidy.proofs.Common.{◌≡◌, List, take, settings_of, Tidies, paths_of, TakesLines, ErrorLine}
use Rattle.kmin_tidy.proofs.whole_run.tidy_each.Given as goal

abbrev pub invariant-loop-path : goal.invariant-loop-path
invariant-loop-path g l = record {
  system : l.config.system ≡ l.fn.config.system;
  ran : (reports : List ErrorLine)
      × Tidies (settings_of l.fn.config.system l.by.format.now l.by.options) (g.D.ReadDisk.disk l.fn.disk)
      (g.D.ReadDisk.disk l.disk) (paths_of (take l.path-index l.paths)) l.text.items reports l.status
      × TakesLines (g.E.Messages.taken l.fn.err) (g.E.Messages.failures l.fn.err) reports (g.E.Messages.taken l.err) (g.E.Messages.failures l.err);
}

use Rattle.kmin_tidy.specs.Options.{settings_of}
use Rattle.kmin_tidy.proofs.EndLemmas.{ends_by, ends_became, ends_unasked, ends_again, ends_silent}
use Rattle.kmin_tidy.proofs.run.tidy_files.Goals as goal

pub returns-clause-ends : goal.returns-clause-ends
returns-clause-ends g c =
    ends_by _ _ _ _ c.tidy_all-ended.result _ _ _ _ _ _ _ _ _ _ _ c.tidy_all-ended.ensures.run c.tidy_all-ended.ensures.stopped c.finish.ensures.written c.finish.ensures.stopped

pub returns-clause-became : goal.returns-clause-became
returns-clause-became g c =
    ends_became (settings_of c.args.settled.now c.args.by.now.format.now c.args.by.now.options)
    (g.D.ReadDisk.disk c.args.disk.now)
    _ _ _ _ _ _ _ _ (returns-clause-ends g c).1

pub returns-clause-unasked : goal.returns-clause-unasked
returns-clause-unasked g c = λ unasked.
    ends_unasked (settings_of c.args.settled.now c.args.by.now.format.now c.args.by.now.options)
    (g.D.ReadDisk.disk c.args.disk.now)
    _ _ _ _ _ _ _ _ (returns-clause-ends g c).1 unasked

pub returns-clause-again : goal.returns-clause-again
returns-clause-again g c = λ tidy.
    ends_again (settings_of c.args.settled.now c.args.by.now.format.now c.args.by.now.options)
    (g.D.ReadDisk.disk c.args.disk.now)
    _ _ _ _ _ _ _ _ (returns-clause-ends g c).1 tidy

pub returns-clause-silent : goal.returns-clause-silent
returns-clause-silent g c = λ tidy.
    ends_silent (settings_of c.args.settled.now c.args.by.now.format.now c.args.by.now.options)
    (g.D.ReadDisk.disk c.args.disk.now)
    _ _ _ _ _ _ _ _ (returns-clause-ends g c).1 tidy

use Rattle.kmin_explain_command.proofs.Common.{refl, if_ok_map, if_err_map}
use Rattle.kc_files.proofs.StoreLemmas.{one_more_rises}
use Rattle.kmin_tidy.specs.checker.Readings.{unopened}
use Rattle.kmin_inputs.proofs.FailureCounts.{closed_rises}
use Rattle.kmin_explain_command.proofs.lined_file.read_accepted.Goals as goal

pub returns-in-Some-clause-ok : goal.returns-in-Some-clause-ok
returns-in-Some-clause-ok g c =
    if_ok_map c.read_source-read.result _ _ (λ file accepted.
    accepted ((g.F.Files.surroundings c.args.files.now).content c.args.path.now) (rw c.in-Some.is at c.reader_for.ensures.opens)) c.read_source-read.ensures.ok

pub returns-in-Some-clause-fault : goal.returns-in-Some-clause-fault
returns-in-Some-clause-fault g c =
    if_err_map c.read_source-read.result _ _ (λ fault faulty.
    faulty ((g.F.Files.surroundings c.args.files.now).content c.args.path.now) (rw c.in-Some.is at c.reader_for.ensures.opens)) c.read_source-read.ensures.fault

pub returns-in-Some-clause-failed : goal.returns-in-Some-clause-failed
returns-in-Some-clause-failed g c =
    if_err_map c.read_source-read.result _ _ (λ fault failed. λ read.
    closed_rises _ _ (g.F.Files.failures c.args.files.now) (g.F.Files.failures c.reader_for.new.self) (g.F.Files.failures c.close.new.self)
    (rw c.in-Some.is at c.reader_for.ensures.unread) (one_more_rises _ _ _ refl (failed read)) c.reader_for.ensures.rising c.close.ensures.failed c.close.ensures.rising)
    c.read_source-read.ensures.failed

pub returns-in-None-clause-fault : goal.returns-in-None-clause-fault
returns-in-None-clause-fault g c = unopened (rw c.in-None.is at c.reader_for.ensures.opens) refl refl

pub returns-in-None-clause-failed : goal.returns-in-None-clause-failed
returns-in-None-clause-failed g c = λ read. rw c.in-None.is at c.reader_for.ensures.failed

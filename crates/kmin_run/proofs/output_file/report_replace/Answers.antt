use Rattle.kmin_run.proofs.Common.{none, lines_one}
use Rattle.kmin_run.proofs.output_file.report_replace.Goals as goal

pub returns-in-NotRegular-clause-reported : goal.returns-in-NotRegular-clause-reported
returns-in-NotRegular-clause-reported g c = rw c.in-NotRegular.is (lines_one _ _ _ _ _ c.report_failure.ensures.reported)

pub returns-in-Unchanged-clause-reported : goal.returns-in-Unchanged-clause-reported
returns-in-Unchanged-clause-reported g c = rw c.in-Unchanged.is (lines_one _ _ _ _ _ c.report_failure-in-Unchanged.ensures.reported)

pub returns-in-NamesTaken-clause-reported : goal.returns-in-NamesTaken-clause-reported
returns-in-NamesTaken-clause-reported g c = rw c.in-NamesTaken.is (lines_one _ _ _ _ _ c.report_failure-in-NamesTaken.ensures.reported)

pub returns-in-Left-clause-reported : goal.returns-in-Left-clause-reported
returns-in-Left-clause-reported g c = rw c.in-Left.is (lines_one _ _ _ _ _ (rw c.deref.ensures at c.report_failure-in-Left.ensures.reported))

pub returns-in-FolderNotSynced-clause-reported : goal.returns-in-FolderNotSynced-clause-reported
returns-in-FolderNotSynced-clause-reported g c = rw c.in-FolderNotSynced.is (lines_one _ _ _ _ _ c.report_failure-in-FolderNotSynced.ensures.reported)

pub returns-in-OutOfMemory-clause-reported : goal.returns-in-OutOfMemory-clause-reported
returns-in-OutOfMemory-clause-reported g c = rw c.in-OutOfMemory.is none

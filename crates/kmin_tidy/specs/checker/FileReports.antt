-- Reports of files that are refused or not replaced.
use Rattle.std.specs.Prelude.{◌≡◌, ◌≢◌, ◌⊎◌, Bool, true, false, [], Some}
use Rattle.kc_dotconfig_model.specs.declared.fault.LoadKind.TheVariants.{Read, OutOfMemory as LoadMemory}
use Rattle.kc_dotconfig_model.specs.declared.fault.LoadFault.{LoadFault}
use Rattle.kmin_tidy.specs.declared.outcome.FileOutcome.TheVariants.{Refused, Failed}
use Rattle.kmin_tidy.specs.declared.report.Problem.TheVariants.{Fault, Write}
use Rattle.kmin_tidy.specs.declared.file_step.FileEnd.{FileEnd}
use Rattle.kmin_tidy.specs.declared.stop.TidyStop.{TidyStop}
use Rattle.kmin_tidy.specs.declared.stop.TidyStop.TheVariants.{Memory, Left as StopLeft}
use Rattle.kmin_disk.specs.declared.fault.ReplaceFault.{ReplaceFault}
use Rattle.kmin_disk.specs.declared.fault.ReplaceFault.TheVariants.{Left, FolderNotSynced, OutOfMemory}
use Rattle.kmin_tidy.specs.declared.report.FileReport.{FileReport}

-- a file with this fault has this report: no notices, the fault as its problem, and the outcome `Failed` for a failed read, and
-- `Refused` for any other fault but lack of memory
pub record IsRefusedAs (fault : LoadFault) (report : FileReport) : Type 0 where
  pub notices : report.notices.items ≡ []
  pub problem : report.problem ≡ Some (Fault fault)
  pub outcome : ((fault.kind ≡ Read) × (report.outcome ≡ Failed)) ⊎ ((fault.kind ≢ Read) × (fault.kind ≢ LoadMemory) × (report.outcome ≡ Refused))

-- a file couldn't be replaced, or its folder couldn't be synced after it: the problem is `Write`, and the outcome `Failed`
abbrev pub IsNotWritten : (is_replaced : Bool) → FileEnd → Type 0
IsNotWritten is_replaced end = (end.problem ≡ Some Write) × (end.outcome ≡ Failed) × (end.is_replaced ≡ is_replaced)

-- a fault of replacing a file lets the run go on, and gives the file this end
abbrev pub IsFailedBy : ReplaceFault → FileEnd → Type 0
IsFailedBy OutOfMemory end = ⊥
IsFailedBy (Left new_path) end = ⊥
IsFailedBy FolderNotSynced end = IsNotWritten true end
IsFailedBy _ end = IsNotWritten false end

-- a fault of replacing a file ends the run for this reason
abbrev pub IsStoppedBy : ReplaceFault → TidyStop → Type 0
IsStoppedBy OutOfMemory stop = stop ≡ Memory
IsStoppedBy (Left new_path) stop = stop ≡ StopLeft new_path
IsStoppedBy _ stop = ⊥

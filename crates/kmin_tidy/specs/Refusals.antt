-- Files that aren't accepted.
use Rattle.std.specs.Prelude.{◌≡◌, ℕ, true, List, ◌++◌, None}
use Rattle.kc_value.specs.FileContents.{OpensAs}
use Rattle.kc_dotconfig_model.specs.declared.fault.LoadKind.{LoadKind}
use Rattle.kc_dotconfig_model.specs.declared.fault.LoadKind.TheVariants.{Read}
use Rattle.kc_dotconfig_model.specs.LoadFaults.{IsFirstFault, complete, cut_short}
use Rattle.kmin_disk.specs.Contents.{IsOfKind, readable}
use Rattle.kmin_disk.specs.Disks.{Disk, FailsOnce, MayFailOnce, content_at}
use Rattle.kmin_disk.specs.declared.kind.FileKind.TheVariants.{NotRegular}
use Rattle.kmin_tidy.specs.Options.{TidySettings}
use Rattle.kmin_tidy.specs.MinimalFiles.{MayBeRead, IsReadAt}
use Rattle.kmin_report.specs.Reports.{ErrorLine, fault_line, not_regular_line}
use Rattle.kmin_tidy.specs.declared.outcome.FileOutcome.{FileOutcome}
use Rattle.kmin_tidy.specs.declared.outcome.FileOutcome.TheVariants.{Refused, Failed}

-- The file at a path is refused, with this outcome and this line of standard error, and no file changes: it has a first fault, and a
-- read after the fault may have failed; a read fails before one, or it can't be opened, and that failure is counted; or under the
-- option `--write` it isn't a regular file.
pub data IsNotAccepted (s : TidySettings) (old new : Disk) (path : List ℕ) (outcome : FileOutcome) (line : ErrorLine) : Type 0 where
  faulty : (bytes : List ℕ) (kind : LoadKind) (number : ℕ) → IsReadAt s old.state path bytes
      → IsFirstFault s.format s.tree complete bytes kind number → MayFailOnce old new → outcome ≡ Refused
      → line ≡ fault_line path number kind → IsNotAccepted s old new path outcome line
  unread : (front rest : List ℕ) (number : ℕ) → IsReadAt s old.state path (front ++ rest)
      → IsFirstFault s.format s.tree cut_short front Read number → FailsOnce old new → outcome ≡ Failed
      → line ≡ fault_line path number Read → IsNotAccepted s old new path outcome line
  unopened : MayBeRead s old.state path → OpensAs (readable (content_at old.state path)) None → FailsOnce old new → outcome ≡ Failed
      → line ≡ fault_line path 0 Read → IsNotAccepted s old new path outcome line
  not_regular : s.options.write ≡ true → IsOfKind (content_at old.state path) NotRegular → new ≡ old → outcome ≡ Failed
      → line ≡ not_regular_line path → IsNotAccepted s old new path outcome line

-- The result of reading a configuration file, given the bytes that the reader supplied.
use Rattle.std.specs.Prelude.{◌≡◌, ◌⊎◌, ℕ, ◌+◌, ◌-◌, ◌^◌, ◌<◌, ◌≤◌, List, ◌++◌, Option, length, map}
use Rattle.std.specs.Io.KnownBytes.{Consumes, IsAtEnd}
use Rattle.kc_tree_model.specs.Trees.{Tree}
use Rattle.kc_value.specs.declared.limits.TheConstants.{MAX_CONFIG_BLOCK_BYTES}
use Rattle.kc_dotconfig_model.specs.Formats.{FileFormat}
use Rattle.kc_dotconfig_model.specs.declared.fault.LoadKind.{LoadKind}
use Rattle.kc_dotconfig_model.specs.declared.fault.LoadKind.TheVariants.{Read, OutOfMemory}
use Rattle.kc_dotconfig_model.specs.ConfigLines.{LineMeaning}
use Rattle.kc_dotconfig_model.specs.ConfigFiles.{FileMeans, file_assignment, notices_from}
use Rattle.kc_dotconfig_model.specs.OtherChoices.{choice_lines_from}
use Rattle.kc_dotconfig_model.specs.LoadFaults.{complete, cut_short, OccursAt, IsFirstFault, IsAccepted}
use Rattle.kc_dotconfig.specs.declared.fragment.Fragment.{Fragment}
use Rattle.kc_dotconfig.specs.Fragments.{users_of}
use Rattle.kc_dotconfig_model.specs.between.Notices.{notice_pair}

-- a configuration file was read to its end and has no fault, and `f` has its assignment, its notices and its lines of members
pub record IsReadAs (format : FileFormat) (tree : Tree) (before after : Option (List ℕ)) (f : Fragment) : Type 0 where
  pub known : List ℕ
  pub consumed : Consumes before after known
  pub ended : IsAtEnd after
  pub accepted : IsAccepted format tree known
  pub meanings : List LineMeaning
  pub has_meaning : FileMeans format tree known meanings
  pub users : users_of tree f.assigns.items ≡ file_assignment tree meanings
  pub noted : map notice_pair f.notices.items ≡ notices_from 1 meanings
  pub chosen : f.chosen.items ≡ choice_lines_from 1 meanings

-- such a file was read, and `keeps` is true of its bytes
abbrev pub IsReadKeeping : FileFormat → Tree → (before after : Option (List ℕ)) → (keeps : List ℕ → Type 0) → Fragment → Type 0
IsReadKeeping format tree before after keeps f = (read : IsReadAs format tree before after f) × keeps read.known

-- the bytes read have a first fault, of this kind and line: either they are the whole configuration file, or the fault is the
-- first whatever bytes follow; no fault occurs before the last `MAX_CONFIG_BLOCK_BYTES` of the bytes read
pub record IsFileRefused (format : FileFormat) (tree : Tree) (before after : Option (List ℕ)) (kind : LoadKind) (number : ℕ) : Type 0 where
  pub known : List ℕ
  pub consumed : Consumes before after known
  pub first : (IsAtEnd after × IsFirstFault format tree complete known kind number)
      ⊎ ((rest : List ℕ) → IsFirstFault format tree complete (known ++ rest) kind number)
  pub soon : (rest : List ℕ) (other : LoadKind) (byte n : ℕ) → OccursAt format tree (known ++ rest) other byte n
      → length known ≤ byte + MAX_CONFIG_BLOCK_BYTES

-- a read failed in the line `number`, after the reader supplied bytes of a configuration file that have no fault
pub record IsCutShort (format : FileFormat) (tree : Tree) (before after : Option (List ℕ)) (number : ℕ) : Type 0 where
  pub known : List ℕ
  pub consumed : Consumes before after known
  pub first : IsFirstFault format tree cut_short known Read number

-- what a reported fault implies for the bytes read; for a failed read also that the reader's count of failures rose from `failed`
-- to `failed_after`; out of memory has the line 0
abbrev pub ReportsFault : FileFormat → Tree → (before after : Option (List ℕ)) → (failed failed_after : ℕ) → LoadKind → ℕ → Type 0
ReportsFault format tree before after failed failed_after OutOfMemory number = number ≡ 0
ReportsFault format tree before after failed failed_after Read number = IsCutShort format tree before after number
    × (failed < 2 ^ 64 - 1 → failed < failed_after)
ReportsFault format tree before after failed failed_after kind number = IsFileRefused format tree before after kind number

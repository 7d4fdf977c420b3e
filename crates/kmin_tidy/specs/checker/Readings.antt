-- Files that are read.
use Rattle.std.specs.Prelude.{◌≡◌, ◌≢◌, ℕ, List, ◌++◌, None, map}
use Rattle.kc_value.specs.FileContents.{FileContent, OpensAs, AreKnownBytes}
use Rattle.kc_dotconfig_model.specs.Formats.{FileFormat}
use Rattle.kc_dotconfig_model.specs.ConfigLines.{LineMeaning}
use Rattle.kc_dotconfig_model.specs.ConfigFiles.{FileMeans, file_assignment, notices_from}
use Rattle.kc_dotconfig_model.specs.OtherChoices.{choice_lines_from}
use Rattle.kc_dotconfig_model.specs.LoadFaults.{IsAccepted, IsFirstFault, complete, cut_short}
use Rattle.kc_dotconfig_model.specs.declared.fault.LoadKind.{LoadKind}
use Rattle.kc_dotconfig_model.specs.declared.fault.LoadKind.TheVariants.{Read, OutOfMemory}
use Rattle.kc_dotconfig.specs.declared.fragment.Fragment.{Fragment}
use Rattle.kc_dotconfig.specs.Fragments.{FitsTree, users_of}
use Rattle.kc_dotconfig_model.specs.between.Notices.{notice_pair}
use Rattle.kc_tree_model.specs.Trees.{Tree}
use Rattle.kc_dotconfig_model.specs.declared.notice.NoticeKind.TheVariants.{OtherChoice}
use Rattle.kmin_tidy.specs.Options.{Notices}
use Rattle.kmin_tidy.specs.declared.accepted_file.AcceptedFile.{AcceptedFile}

-- a fragment has the assignments of an accepted configuration file of these bytes, the notices of its lines and its lines of members
pub record IsFragmentOf (format : FileFormat) (tree : Tree) (bytes : List ℕ) (f : Fragment) : Type 0 where
  pub accepted : IsAccepted format tree bytes
  pub meanings : List LineMeaning
  pub means : FileMeans format tree bytes meanings
  pub users : users_of tree f.assigns.items ≡ file_assignment tree meanings
  pub noted : map notice_pair f.notices.items ≡ notices_from 1 meanings
  pub chosen : f.chosen.items ≡ choice_lines_from 1 meanings
  pub fits : FitsTree tree f.assigns.items

-- notices on choices, from their places
abbrev pub places_noted : List (ℕ × ℕ) → Notices
places_noted places = map (λ (place : ℕ × ℕ). (place.1, OtherChoice)) places

-- a file was read and accepted: its bytes agree with `known`, what is known of them, and its fragment is that of these bytes
pub record IsAcceptedAs (format : FileFormat) (tree : Tree) (known : FileContent) (file : AcceptedFile) : Type 0 where
  pub read : AreKnownBytes known file.bytes.items
  pub fragment : IsFragmentOf format tree file.bytes.items file.fragment

-- a file isn't accepted for a fault of this kind at the line `number`: its first fault, a read that fails before one, that it
-- can't be opened, or lack of memory; `known` is what is known of its bytes
pub data IsFaulty (format : FileFormat) (tree : Tree) (known : FileContent) (kind : LoadKind) (number : ℕ) : Type 0 where
  refused : (bytes : List ℕ) → AreKnownBytes known bytes → kind ≢ Read → IsFirstFault format tree complete bytes kind number
      → IsFaulty format tree known kind number
  unread : (front rest : List ℕ) → AreKnownBytes known (front ++ rest) → IsFirstFault format tree cut_short front Read number
      → kind ≡ Read → IsFaulty format tree known kind number
  unopened : OpensAs known None → kind ≡ Read → number ≡ 0 → IsFaulty format tree known kind number
  for_memory : kind ≡ OutOfMemory → IsFaulty format tree known kind number

-- The state accumulated while a configuration file is read.
use Rattle.std.specs.Prelude.{◌≡◌, ℕ, ◌+◌, ◌<◌, ◌≤◌, List, ◌++◌, Some, None, length, map}
use Rattle.kc_solver.specs.Solutions.{user_of}
use Rattle.kc_rules_model.specs.declared.values.UserValue.{UserValue}
use Rattle.kc_tree_model.specs.Trees.{Tree}
use Rattle.kc_dotconfig_model.specs.Formats.{FileFormat}
use Rattle.kc_dotconfig_model.specs.declared.fault.LoadKind.{LoadKind}
use Rattle.kc_dotconfig_model.specs.declared.fault.LoadKind.TheVariants.{OutOfMemory}
use Rattle.kc_dotconfig_model.specs.ConfigLines.{LineMeaning}
use Rattle.kc_dotconfig_model.specs.ConfigFiles.{FileMeans, file_assignment, notices_from}
use Rattle.kc_dotconfig_model.specs.OtherChoices.{choice_lines_from}
use Rattle.kc_value.specs.declared.limits.TheConstants.{MAX_CONFIG_BYTES}
use Rattle.kc_dotconfig_model.specs.LoadFaults.{complete, IsFirstFault, IsAccepted}
use Rattle.kc_dotconfig_model.specs.between.PartialFiles.{IsCutFile}
use Rattle.kc_dotconfig.specs.declared.accumulator.Accumulator.{Accumulator}
use Rattle.kc_dotconfig.specs.declared.fragment.Fragment.{Fragment}
use Rattle.kc_dotconfig.specs.Fragments.{users_of}
use Rattle.kc_dotconfig_model.specs.between.Notices.{notice_pair}
use Rattle.kc_dotconfig.specs.checker.UserValueOrder.{IsAscending, AreBelow}
use Rattle.kc_dotconfig.specs.checker.GatheredLines.{value_in, lines_in, held_in, IsPlain}

-- the accumulator has the assignment, the notices, the lines of members and the number of the lines with these meanings
pub record IsGathered (tree : Tree) (meanings : List LineMeaning) (g : Accumulator) : Type 0 where
  pub users : (u : ℕ) → u < length tree.units → user_of (file_assignment tree meanings) u ≡ held_in g.assigns g.members.entries u
  pub noted : map notice_pair g.notices.items ≡ notices_from 1 meanings
  pub chosen : g.chosen.items ≡ choice_lines_from 1 meanings
  pub counted : g.lines ≡ length meanings
  pub rises : IsAscending g.assigns
  pub below : AreBelow (length tree.units) g.assigns
  pub plain : (u : ℕ) (x : UserValue) → value_in g.assigns u ≡ Some x → IsPlain x
  pub members_below : (u : ℕ) → length tree.units ≤ u → lines_in g.members.entries u ≡ None

-- the line number of a fault of a kind after this number of complete lines: the next line's, but 0 for out of memory
abbrev pub fault_line : LoadKind → ℕ → ℕ
fault_line OutOfMemory lines = 0
fault_line _ lines = lines + 1

-- the bytes read so far end with this incomplete line, and the accumulator has the meanings of the complete lines before it
abbrev pub Holds : FileFormat → Tree → List ℕ → List ℕ → Accumulator → Type 0
Holds format tree known line g = (meanings : List LineMeaning) × IsCutFile format tree known line meanings × IsGathered tree meanings g

-- the third list, a piece without a fault, extends the incomplete line from the first list to the second, after this number of
-- complete lines
abbrev pub GoesOn : List ℕ → List ℕ → List ℕ → ℕ → Type 0
GoesOn old new piece lines = (format : FileFormat) (tree : Tree) (known : List ℕ) (meanings : List LineMeaning) → IsCutFile format tree known old meanings
    → length meanings ≡ lines → length known + length piece ≤ MAX_CONFIG_BYTES → IsCutFile format tree (known ++ piece) new meanings

-- the second list, a piece after the incomplete line in the first, has the file's first fault, of this kind, in the line after
-- this number of complete lines
abbrev pub StopsIn : List ℕ → List ℕ → ℕ → LoadKind → Type 0
StopsIn old piece lines kind = (format : FileFormat) (tree : Tree) (known rest : List ℕ) (meanings : List LineMeaning) → IsCutFile format tree known old meanings
    → length meanings ≡ lines → length known + length piece ≤ MAX_CONFIG_BYTES
    → IsFirstFault format tree complete (known ++ (piece ++ rest)) kind (lines + 1)

-- `bytes` have no fault; they change the incomplete line from `line` to `new`, and the first accumulator to the second
abbrev pub AcceptsBytes : FileFormat → Tree → (line : List ℕ) → Accumulator → (bytes new : List ℕ) → Accumulator → Type 0
AcceptsBytes format tree line g bytes line_new g_new = (known : List ℕ) → Holds format tree known line g → length known + length bytes ≤ MAX_CONFIG_BYTES
    → Holds format tree (known ++ bytes) line_new g_new

-- the bytes have the file's first fault, of this kind, in the line after this number of complete lines
abbrev pub Refuses : FileFormat → Tree → (line : List ℕ) → Accumulator → (bytes : List ℕ) → LoadKind → ℕ → Type 0
Refuses format tree line g bytes kind lines = (known rest : List ℕ) → Holds format tree known line g → length known + length bytes ≤ MAX_CONFIG_BYTES
    → IsFirstFault format tree complete (known ++ (bytes ++ rest)) kind (lines + 1)

-- a file that ends with this incomplete line, after the lines of the first accumulator, has no fault; the second accumulator has
-- the meanings of all its lines
abbrev pub EndsWell : FileFormat → Tree → List ℕ → Accumulator → Accumulator → Type 0
EndsWell format tree line g g_new = (known : List ℕ) → Holds format tree known line g
    → (meanings : List LineMeaning) × IsAccepted format tree known × FileMeans format tree known meanings × IsGathered tree meanings g_new

-- a file that ends with this incomplete line, after the lines of the accumulator, has a first fault of this kind, in the line
-- after this number of complete lines
abbrev pub EndsBadly : FileFormat → Tree → List ℕ → Accumulator → LoadKind → ℕ → Type 0
EndsBadly format tree line g kind lines = (known : List ℕ) → Holds format tree known line g
    → IsFirstFault format tree complete known kind (lines + 1)

-- a fragment is the meaning of a file that ends with this incomplete line, after the lines of the accumulator
abbrev pub IsFragmentOf : FileFormat → Tree → List ℕ → Accumulator → Fragment → Type 0
IsFragmentOf format tree line g f = (known : List ℕ) → Holds format tree known line g
    → (meanings : List LineMeaning) × IsAccepted format tree known × FileMeans format tree known meanings
    × (users_of tree f.assigns.items ≡ file_assignment tree meanings) × (map notice_pair f.notices.items ≡ notices_from 1 meanings)
    × IsAscending f.assigns.items × AreBelow (length tree.units) f.assigns.items × (f.chosen.items ≡ choice_lines_from 1 meanings)

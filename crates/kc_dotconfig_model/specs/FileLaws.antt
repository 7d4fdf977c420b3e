-- The laws of configuration files and their lines.
use Rattle.std.specs.Prelude.{◌≡◌, ◌⊎◌, ◌↔◌, ℕ, ◌+◌, ◌<◌, ◌≤◌, true, false, List, [], ◌∷◌, ◌++◌, codes, Option, Some, length, slice_get, IsTrue}
use Rattle.std.specs.Str.{IsUtf8}
use Rattle.kc_tree_model.specs.Trees.{Tree}
use Rattle.kc_tree_model.specs.TreeLookup.{IsConsistent}
use Rattle.kc_solver.specs.Solutions.{FitsUsers}
use Rattle.kc_rules_model.specs.Shapes.{user_fits}
use Rattle.kc_rules_model.specs.declared.values.UserValue.{UserValue}
use Rattle.kc_tokens.specs.declared.language.Language.TheVariants.{Linux}
use Rattle.kc_tokens.specs.declared.language.LinuxVersion.{LinuxVersion}
use Rattle.kc_dotconfig_model.specs.declared.format.Strings.TheVariants.{Escaped}
use Rattle.kc_dotconfig_model.specs.Formats.{FileFormat, string_spelling, IsStringSpelling}
use Rattle.kc_dotconfig_model.specs.declared.fault.LoadKind.{LoadKind}
use Rattle.kc_dotconfig_model.specs.declared.fault.LoadKind.TheVariants.{Read}
use Rattle.kc_dotconfig_model.specs.PrefixGrammar.{is_prefix, is_name_prefix}
use Rattle.kc_dotconfig_model.specs.ConfigLines.{LineMeaning, Means, IsValueLine, IsUnsetLine, is_unset_text, has_escape_notice}
use Rattle.kc_tree_model.specs.LogicalLines.{without_white_end}
use Rattle.kc_dotconfig_model.specs.ConfigFiles.{file_lines, has_utf8_lines, FileMeans, assigned_over, file_assignment, merged_users}
use Rattle.kc_value.specs.declared.limits.TheConstants.{MAX_CONFIG_BYTES, MAX_CONFIG_LINES, MAX_LINE_BYTES}
use Rattle.kc_value.specs.Lines.{has_no_byte, newline_count}
use Rattle.kc_dotconfig_model.specs.LoadFaults.{InputEnd, complete, cut_short, OccursAt, IsFirstFault, IsAccepted}

-- with a prefix, each line of the prefix, a name, `=` and a text gives the name that text
abbrev pub PrefixedLinesHaveValues : Type 0
PrefixedLinesHaveValues = (prefix name text : List ℕ) → is_prefix prefix ≡ true → 0 < length name → has_no_byte 61 name ≡ true
    → IsValueLine prefix (prefix ++ (name ++ (61 ∷ text))) name text

-- a text after `# `, without the white bytes at its end, is an unset text exactly if the line of the two is an unset line where
-- names have no prefix
abbrev pub UnsetTextsAreRead : Type 0
UnsetTextsAreRead = (text : List ℕ) → (is_unset_text (without_white_end text) ≡ true)
    ↔ ((name : List ℕ) × IsUnsetLine [] (without_white_end (codes "# " ++ text)) name)

-- in the languages of Linux the spelling of an escaped string has no notice exactly if it is the one that is written
abbrev pub EscapesAreNoticed : Type 0
EscapesAreNoticed = (version : LinuxVersion) (spelling text : List ℕ) → IsStringSpelling Escaped spelling text
    → (has_escape_notice (Linux version) Escaped spelling ≡ false) ↔ (spelling ≡ string_spelling Escaped text)

-- each line of a configuration file has at most one meaning
abbrev pub LinesHaveOneMeaning : Type 0
LinesHaveOneMeaning = (format : FileFormat) (tree : Tree) (line : List ℕ) (a b : LineMeaning) → is_name_prefix format.prefix ≡ true
    → Means format tree line a → Means format tree line b → a ≡ b

-- the lines of each configuration file have at most one list of meanings
abbrev pub FilesHaveOneMeaning : Type 0
FilesHaveOneMeaning = (format : FileFormat) (tree : Tree) (bytes : List ℕ) (a b : List LineMeaning) → is_name_prefix format.prefix ≡ true
    → FileMeans format tree bytes a → FileMeans format tree bytes b → a ≡ b

-- reading a configuration file over an assignment gives the same as merging the file's own assignment with it
abbrev pub FilesAreMergedWithAssignments : Type 0
FilesAreMergedWithAssignments = (tree : Tree) (meanings : List LineMeaning) (users : List (Option UserValue))
    → length users ≡ length tree.units → assigned_over meanings users ≡ merged_users (file_assignment tree meanings) users

-- the user values that a configuration file of UTF-8 lines assigns fit their units, over a consistent tree
abbrev pub FilesFit : Type 0
FilesFit = (format : FileFormat) (tree : Tree) (bytes : List ℕ) (meanings : List LineMeaning) → IsConsistent tree
    → has_utf8_lines bytes ≡ true → FileMeans format tree bytes meanings
    → FitsUsers (length tree.units) (λ u x. IsTrue (user_fits tree u x)) (file_assignment tree meanings)

-- each line of an accepted configuration file is understood: it assigns a user value, gives a notice, or does neither
abbrev pub AcceptedFilesAreRead : Type 0
AcceptedFilesAreRead = (format : FileFormat) (tree : Tree) (bytes : List ℕ) → is_name_prefix format.prefix ≡ true
    → IsAccepted format tree bytes → (meanings : List LineMeaning) × FileMeans format tree bytes meanings

-- a configuration file has at most one first fault, of one kind and at one line
abbrev pub OneFaultIsFirst : Type 0
OneFaultIsFirst = (format : FileFormat) (tree : Tree) (extent : InputEnd) (bytes : List ℕ) (a b : LoadKind) (m n : ℕ)
    → IsFirstFault format tree extent bytes a m → IsFirstFault format tree extent bytes b n → (a ≡ b) × (m ≡ n)

-- a configuration file with a first fault isn't accepted
abbrev pub FaultyFilesAreRefused : Type 0
FaultyFilesAreRefused = (format : FileFormat) (tree : Tree) (bytes : List ℕ) (kind : LoadKind) (number : ℕ)
    → IsFirstFault format tree complete bytes kind number → IsAccepted format tree bytes → ⊥

-- a failed read is reported exactly if no fault occurs at a byte before it, with the line on which it failed
abbrev pub FailedReadsAreReported : Type 0
FailedReadsAreReported = (format : FileFormat) (tree : Tree) (bytes : List ℕ) (number : ℕ)
    → IsFirstFault format tree cut_short bytes Read number
    ↔ (((kind : LoadKind) (byte other : ℕ) → OccursAt format tree bytes kind byte other → length bytes ≤ byte)
    × (number ≡ newline_count bytes + 1))

-- a line of a configuration file has at most `MAX_LINE_BYTES` bytes, is UTF-8, and has a meaning
pub record IsGoodLine (format : FileFormat) (tree : Tree) (line : List ℕ) : Type 0 where
  pub short : length line ≤ MAX_LINE_BYTES
  pub utf8 : IsUtf8 line
  pub meaning : LineMeaning
  pub has_meaning : Means format tree (without_white_end line) meaning

-- a configuration file is within the limits of bytes and lines, and each line is within its limit, UTF-8 and not malformed
pub record IsOfGoodLines (format : FileFormat) (tree : Tree) (bytes : List ℕ) : Type 0 where
  pub small : length bytes ≤ MAX_CONFIG_BYTES
  pub few : length (file_lines bytes) ≤ MAX_CONFIG_LINES
  pub good : (i : ℕ) (line : List ℕ) → slice_get (file_lines bytes) i ≡ Some line → IsGoodLine format tree line

-- a configuration file is accepted exactly if it is within the limits of bytes and lines, and each of its lines is
-- within its limit, UTF-8 and not malformed
abbrev pub AcceptedFilesHaveGoodLines : Type 0
AcceptedFilesHaveGoodLines = (format : FileFormat) (tree : Tree) (bytes : List ℕ) → is_name_prefix format.prefix ≡ true
    → IsAccepted format tree bytes ↔ IsOfGoodLines format tree bytes

-- each configuration file is accepted or has a first fault
abbrev pub EachFileIsJudged : Type 0
EachFileIsJudged = (format : FileFormat) (tree : Tree) (bytes : List ℕ) → is_name_prefix format.prefix ≡ true
    → IsAccepted format tree bytes
    ⊎ ((kind : LoadKind) × (number : ℕ) × IsFirstFault format tree complete bytes kind number)

-- each configuration file that a failed read cut short has a first fault
abbrev pub EachCutFileIsJudged : Type 0
EachCutFileIsJudged = (format : FileFormat) (tree : Tree) (bytes : List ℕ) → is_name_prefix format.prefix ≡ true
    → (kind : LoadKind) × (number : ℕ) × IsFirstFault format tree cut_short bytes kind number

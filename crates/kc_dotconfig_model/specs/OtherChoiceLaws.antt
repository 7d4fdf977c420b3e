-- Laws of the choices of which lines select another member by the rules from Linux 6.10 on.
use Rattle.std.specs.Prelude.{◌≡◌, ◌≢◌, ◌⊎◌, ◌↔◌, ℕ, true, false, List, ◌++◌, Option, Some, is_some, length, map, slice_get}
use Rattle.std.specs.List.{AllZip}
use Rattle.std.specs.Option.{option_map}
use Rattle.kc_tokens.specs.declared.language.Language.TheVariants.{Linux}
use Rattle.kc_tokens.specs.declared.language.LinuxVersion.TheVariants.{V6_12}
use Rattle.kc_tokens.specs.Languages.{is_linux_6_12}
use Rattle.kc_tree_model.specs.Trees.{Tree, Choice, in_language}
use Rattle.kc_tree_model.specs.TreeLookup.{IsConsistent}
use Rattle.kc_tree_model.specs.declared.ids.Unit.TheVariants.{Choice as of_choice}
use Rattle.kc_solver.specs.Solutions.{Solves}
use Rattle.kc_rules_model.specs.declared.profile.Profile.{Profile}
use Rattle.kc_rules_model.specs.declared.values.UnitValue.{UnitValue}
use Rattle.kc_rules_model.specs.declared.values.UnitValue.TheVariants.{Member as MemberValue}
use Rattle.kc_rules_model.specs.declared.values.UserValue.TheVariants.{Member as MemberUser, Lines as LinesUser}
use Rattle.kc_rules_model.specs.declared.values.MemberLine.{MemberLine}
use Rattle.kc_rules_model.specs.MemberLines.{merged_lines, last_y}
use Rattle.kc_rules_model.specs.SymbolValues.{member_of}
use Rattle.kc_rules_model.specs.Rule.{rule, is_shown, is_visible_member, shown_choice_rule, choice_rule}
use Rattle.kc_dotconfig_model.specs.declared.choice_line.ChoiceLine.{ChoiceLine}
use Rattle.kc_dotconfig_model.specs.Formats.{FileFormat}
use Rattle.kc_dotconfig_model.specs.ConfigLines.{LineMeaning}
use Rattle.kc_dotconfig_model.specs.ConfigFiles.{FileMeans, has_utf8_lines, files_assignment}
use Rattle.kc_dotconfig_model.specs.MissedAssignments.{is_given_n}
use Rattle.kc_dotconfig_model.specs.OtherChoices.{has_no_version, choice_lines_from, placed_from, lines_of, kept_last, given_by, noticed_line, other_member, other_line_of_unit}

-- the member that the rules before Linux 6.10 select by lines of a choice: the one last assigned `y`, if it is visible, else the
-- default member
abbrev pub own_member : Tree → List UnitValue → Choice → List (ℕ × ChoiceLine) → Option ℕ
own_member tree values choice lines =
    shown_choice_rule tree choice (option_map (λ s. MemberUser s) (last_y (λ m. true) (given_by lines))) values

-- the last line of the member that is selected gives it `n`
pub record IsGivenN (own : Option ℕ) (lines : List MemberLine) : Type 0 where
  pub member : ℕ
  pub selected : own ≡ Some member
  pub given : is_given_n (kept_last lines) member ≡ true

-- the member last assigned `y` isn't visible, and a visible one is assigned `y` before it
pub record IsHiddenLast (tree : Tree) (values : List UnitValue) (lines : List MemberLine) : Type 0 where
  pub last : ℕ
  pub comes_last : last_y (λ m. true) lines ≡ Some last
  pub hidden : is_visible_member tree values last ≡ false
  pub visible : ℕ
  pub comes_before : last_y (is_visible_member tree values) (kept_last lines) ≡ Some visible

-- law: where lines of a choice that is shown select another member by the rules from Linux 6.10 on, it is for an `n` or for a
-- member that isn't visible
abbrev pub OtherChoicesHaveReasons : Type 0
OtherChoicesHaveReasons = (tree : Tree) (values : List UnitValue) (choice : Choice) (lines : List (ℕ × ChoiceLine)) → is_shown tree values choice ≡ true
    → own_member tree values choice lines ≢ other_member tree values choice lines
    → IsGivenN (own_member tree values choice lines) (given_by lines) ⊎ IsHiddenLast tree values (given_by lines)

-- law: then there is a line with the notice
abbrev pub OtherChoicesHaveLines : Type 0
OtherChoicesHaveLines = (tree : Tree) (values : List UnitValue) (choice : Choice) (lines : List (ℕ × ChoiceLine)) → is_shown tree values choice ≡ true
    → own_member tree values choice lines ≢ other_member tree values choice lines
    → is_some (noticed_line (own_member tree values choice lines) (other_member tree values choice lines) lines) ≡ true

-- law: what lines one after another give to members is what the later ones give, merged with what the earlier ones give
abbrev pub FilesAreMerged : Type 0
FilesAreMerged = (earlier later : List MemberLine) → kept_last (earlier ++ later) ≡ merged_lines (kept_last later) (kept_last earlier)

-- the lines of members in files whose lines have these meanings, each with the number of its file
abbrev pub lines_in_files : List (List LineMeaning) → List (ℕ × ChoiceLine)
lines_in_files files = placed_from 0 (map (choice_lines_from 1) files)

-- configuration files of UTF-8 have lines of these meanings, and these values solve their assignment
pub record FilesGive (format : FileFormat) (profile : Profile) (tree : Tree) (files : List (List LineMeaning)) (values : List UnitValue) : Type 0 where
  pub texts : List (List ℕ)
  pub mean : AllZip (λ bytes meanings. (has_utf8_lines bytes ≡ true) × FileMeans format tree bytes meanings) texts files
  pub solves : Solves (length tree.units) (rule profile tree) (files_assignment tree files) values

-- the unit `u` of a tree is this choice
pub record IsUnitOfChoice (tree : Tree) (u : ℕ) (choice : Choice) : Type 0 where
  pub number : ℕ
  pub unit : slice_get tree.units u ≡ Some (of_choice number)
  pub is : slice_get tree.choices number ≡ Some choice

-- the member that a choice has by the rules of Linux 6.12, if lines of the choice assign it what they give to its members, and the
-- units have these values
abbrev pub member_since : Tree → List UnitValue → Choice → List (ℕ × ChoiceLine) → Option ℕ
member_since tree values choice lines = choice_rule (in_language (Linux V6_12) tree) choice (Some (LinesUser (kept_last (given_by lines)))) values

-- law: over a tree with other rules than those of Linux 6.12, the value of each choice is the member that the rules before Linux
-- 6.10 select by the lines of the files
abbrev pub ChoicesFollowLines : Type 0
ChoicesFollowLines = (format : FileFormat) (profile : Profile) (tree : Tree) (files : List (List LineMeaning)) (values : List UnitValue) (u : ℕ) (choice : Choice)
    → IsConsistent tree → is_linux_6_12 tree.language ≡ false → FilesGive format profile tree files values → IsUnitOfChoice tree u choice
    → slice_get values u ≡ Some (MemberValue (own_member tree values choice (lines_of u (lines_in_files files))))

-- the value of a choice is another one than the member that it has by the rules of Linux 6.12 and these lines
abbrev pub IsOtherSince : Tree → List UnitValue → ℕ → Choice → List (ℕ × ChoiceLine) → Type 0
IsOtherSince tree values u choice lines = slice_get values u ≢ Some (MemberValue (member_since tree values choice (lines_of u lines)))

-- law: a choice has the notice exactly if it is shown and its value is another one than by the rules of Linux 6.12 and the same lines
abbrev pub NoticesAreWhereValuesDiffer : Type 0
NoticesAreWhereValuesDiffer = (format : FileFormat) (profile : Profile) (tree : Tree) (files : List (List LineMeaning)) (values : List UnitValue) (u : ℕ) (choice : Choice)
    → IsConsistent tree → has_no_version tree.language ≡ true → FilesGive format profile tree files values → IsUnitOfChoice tree u choice
    → (is_some (other_line_of_unit tree values u (slice_get tree.units u) (lines_in_files files)) ≡ true)
    ↔ ((is_shown tree values choice ≡ true) × IsOtherSince tree values u choice (lines_in_files files))

-- law: then the last line of the member that is the choice's value gives it `n`, or the member last assigned `y` isn't visible and a
-- visible one is assigned `y` before it
abbrev pub DifferingValuesHaveReasons : Type 0
DifferingValuesHaveReasons = (format : FileFormat) (profile : Profile) (tree : Tree) (files : List (List LineMeaning)) (values : List UnitValue) (u : ℕ) (choice : Choice)
    → IsConsistent tree → has_no_version tree.language ≡ true → FilesGive format profile tree files values → IsUnitOfChoice tree u choice
    → is_shown tree values choice ≡ true → IsOtherSince tree values u choice (lines_in_files files)
    → IsGivenN (member_of (slice_get values u)) (given_by (lines_of u (lines_in_files files)))
    ⊎ IsHiddenLast tree values (given_by (lines_of u (lines_in_files files)))

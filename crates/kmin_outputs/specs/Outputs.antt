-- The output of a command over configuration files.
use Rattle.std.specs.Prelude.{◌≡◌, ℕ, Bool, true, List, [], ◌∷◌, ◌++◌, Option, length, codes}
use Rattle.std.specs.List.{flat_map}
use Rattle.kc_value.specs.FileContents.{FileContent, AreKnownBytes}
use Rattle.kc_tree_model.specs.TreeFiles.{Files}
use Rattle.kc_tree_model.specs.Trees.{Tree}
use Rattle.kc_solver.specs.Solutions.{UniquelySolves}
use Rattle.kc_rules_model.specs.Rule.{rule}
use Rattle.kc_rules_model.specs.Reports.{unmet}
use Rattle.kc_rules_model.specs.declared.values.UnitValue.{UnitValue}
use Rattle.kc_rules_model.specs.declared.values.UserValue.{UserValue}
use Rattle.kc_dotconfig_model.specs.Formats.{FileFormat}
use Rattle.kc_dotconfig_model.specs.ConfigFiles.{FileMeans, notices_from, files_assignment}
use Rattle.kc_dotconfig_model.specs.ConfigLines.{LineMeaning}
use Rattle.kc_dotconfig_model.specs.LoadFaults.{IsAccepted}
use Rattle.kc_dotconfig_model.specs.MissedAssignments.{missed}
use Rattle.kc_dotconfig_model.specs.OtherChoices.{other_choices}
use Rattle.kc_minimal_model.specs.CanonicalText.{IsCanonicalText}
use Rattle.kc_minimal_model.specs.FullFile.{full_file}
use Rattle.kc_minimal_model.specs.Differences.{Difference, differences}
use Rattle.kc_dotconfig_model.specs.declared.format.Strings.{Strings}
use Rattle.kc_minimal_model.specs.SymbolLine.{spelled}
use Rattle.kmin_options.specs.Jobs.{Settings, Task, over, compare}
use Rattle.kmin_options.specs.declared.job.Verb.{Verb}
use Rattle.kmin_options.specs.declared.job.Verb.TheVariants.{Min, Full, Missed, Check}
use Rattle.kmin_records.specs.declared.output_form.OutputForm.{OutputForm}
use Rattle.kmin_records.specs.declared.output_form.OutputForm.TheVariants.{Plain, Json}
use Rattle.kmin_records.specs.Records.{compare_record}
use Rattle.kmin_report.specs.Reports.{ErrorLine, name_at, notice_lines, choice_notice_lines}
use Rattle.kmin_trees.specs.AcceptedTrees.{AreAccepted}
use Rattle.kmin_outputs.specs.Strictness.{AllowsNotices}
use Rattle.kmin_outputs.specs.Statuses.{status_of_list, status_of_verb}

-- Configuration files, whose bytes match what is known of them, are accepted, none is refused for its notices, and these are the
-- meanings of the lines of each.
pub data FilesMean (content_of : List ℕ → FileContent) (format : FileFormat) (strict : Bool) (tree : Tree) : List (List ℕ) → List (List LineMeaning) → Type 0 where
  none : FilesMean content_of format strict tree [] []
  file : (path bytes : List ℕ) (paths : List (List ℕ)) (meanings : List LineMeaning) (others : List (List LineMeaning))
      → AreKnownBytes (content_of path) bytes → IsAccepted format tree bytes → FileMeans format tree bytes meanings
      → AllowsNotices strict (notices_from 1 meanings)
      → FilesMean content_of format strict tree paths others → FilesMean content_of format strict tree (path ∷ paths) (meanings ∷ others)

-- The configuration files at these paths are accepted, their lines have these meanings, and `values` is the one solution of their
-- assignment.
pub record Resolve (content_of : List ℕ → FileContent) (settings : Settings) (tree : Tree) (paths : List (List ℕ)) (meanings : List (List LineMeaning)) (values : List UnitValue) : Type 0 where
  pub mean : FilesMean content_of settings.format settings.strict tree paths meanings
  pub gives : UniquelySolves (length tree.units) (rule settings.profile tree) (files_assignment tree meanings) values

-- a line of a list of symbols: the text `front`, the name of a symbol, and a newline
abbrev pub name_line : List ℕ → Tree → ℕ → List ℕ
name_line front tree s = front ++ (name_at tree s ++ 10 ∷ [])

-- the line of `compare` in a form, for a symbol of this name with these two values: `NAME: LEFT -> RIGHT`, or a record
abbrev pub compared_line : OutputForm → (name left right : List ℕ) → List ℕ
compared_line Plain name left right = name ++ (codes ": " ++ (left ++ (codes " -> " ++ (right ++ 10 ∷ []))))
compared_line Json name left right = compare_record name left right

-- the line of `compare` in a form for a symbol whose values differ, with values spelled as in a configuration file
abbrev pub difference_line : OutputForm → Strings → Tree → Difference → List ℕ
difference_line form strings tree d =
    compared_line form (name_at tree d.symbol) (spelled strings d.left.kind d.left.text) (spelled strings d.right.kind d.right.text)

-- A text is the output of a verb over a tree, an assignment and its values: for `min` the canonical file of the values.
abbrev pub IsTextOfVerb : Settings → Tree → List (Option UserValue) → List UnitValue → Verb → (text : List ℕ) → Type 0
IsTextOfVerb settings tree users values Min text = IsCanonicalText settings.format settings.profile tree values text
IsTextOfVerb settings tree users values Full text = text ≡ full_file settings.format tree values
IsTextOfVerb settings tree users values (Missed exit_code) text = text ≡ flat_map (name_line [] tree) (missed tree users values)
IsTextOfVerb settings tree users values (Check exit_code) text = text ≡ flat_map (name_line (codes "unmet ") tree) (unmet tree values)

-- A command has this output, this status and these lines of notices: a verb over one configuration of all its files, or the
-- comparison of two configurations of one file each. The notices of the lines of all files come first, and then those on choices,
-- which are known with the values.
pub data HasOutput (content_of : List ℕ → FileContent) (settings : Settings) (texts : Files) (task : Task) (text : List ℕ) (status : ℕ) (notices : List ErrorLine) : Type 0 where
  of_files : (tree : Tree) (verb : Verb) (paths : List (List ℕ)) (meanings : List (List LineMeaning)) (values : List UnitValue)
      → task ≡ over verb paths → AreAccepted texts settings.tree tree → Resolve content_of settings tree paths meanings values
      → IsTextOfVerb settings tree (files_assignment tree meanings) values verb text
      → status ≡ status_of_verb tree (files_assignment tree meanings) values verb
      → AllowsNotices settings.strict (other_choices tree values meanings)
      → notices ≡ notice_lines tree paths meanings ++ choice_notice_lines paths (other_choices tree values meanings)
      → HasOutput content_of settings texts task text status notices
  of_comparison : (tree : Tree) (left right : List ℕ) (left_meanings right_meanings : List (List LineMeaning)) (v w : List UnitValue)
      → task ≡ compare left right → AreAccepted texts settings.tree tree
      → Resolve content_of settings tree (left ∷ []) left_meanings v → Resolve content_of settings tree (right ∷ []) right_meanings w
      → text ≡ flat_map (difference_line settings.output_form settings.format.strings tree) (differences tree v w)
      → status ≡ status_of_list true (differences tree v w)
      → AllowsNotices settings.strict (other_choices tree v left_meanings) → AllowsNotices settings.strict (other_choices tree w right_meanings)
      → notices ≡ (notice_lines tree (left ∷ []) left_meanings ++ notice_lines tree (right ∷ []) right_meanings)
      ++ (choice_notice_lines (left ∷ []) (other_choices tree v left_meanings) ++ choice_notice_lines (right ∷ []) (other_choices tree w right_meanings))
      → HasOutput content_of settings texts task text status notices

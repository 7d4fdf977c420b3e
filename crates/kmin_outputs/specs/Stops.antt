-- Commands that end without an output: the exit status, and the lines of standard error before those of `last_lines`. `counted` and
-- `counted_after` are how many calls on files failed before and after.
use Rattle.std.specs.Prelude.{◌≡◌, ℕ, Bool, List, [], ◌∷◌, ◌++◌, None}
use Rattle.kc_value.specs.FileContents.{FileContent, AreKnownBytes, OpensAs}
use Rattle.kc_tree_model.specs.Trees.{Tree}
use Rattle.kc_dotconfig_model.specs.Formats.{FileFormat}
use Rattle.kc_dotconfig_model.specs.declared.fault.LoadKind.{LoadKind}
use Rattle.kc_dotconfig_model.specs.declared.fault.LoadKind.TheVariants.{Read}
use Rattle.kc_dotconfig_model.specs.ConfigLines.{LineMeaning}
use Rattle.kc_dotconfig_model.specs.LoadFaults.{IsAccepted, IsFirstFault, complete, cut_short}
use Rattle.kc_dotconfig_model.specs.ConfigFiles.{FileMeans, notices_from}
use Rattle.kmin_options.specs.Jobs.{Settings, Task, over, compare, paths_of}
use Rattle.kmin_inputs.specs.FileContents.{Surroundings}
use Rattle.kmin_expansions.specs.JobTexts.{TreeTexts, AreTextsOfJob}
use Rattle.kc_rules_model.specs.declared.values.UnitValue.{UnitValue}
use Rattle.kc_dotconfig_model.specs.OtherChoices.{other_choices}
use Rattle.kmin_report.specs.Reports.{ErrorLine, file_notices, notice_lines, choice_notice_lines, fault_line, output_line}
use Rattle.kmin_outputs.specs.Strictness.{AllowsNotices, RefusesNotices}
use Rattle.kmin_trees.specs.AcceptedTrees.{AreAccepted}
use Rattle.kmin_trees.specs.Stops.{StopsAtTree}
use Rattle.kmin_outputs.specs.Outputs.{FilesMean, Resolve, HasOutput}

-- A configuration file ends a command, with this status and these lines of standard error: at its first fault, at a failed read
-- before any fault, since it can't be opened, or since it is refused for its notices.
pub data StopsAtFile (content : FileContent) (format : FileFormat) (strict : Bool) (tree : Tree) (path : List ℕ) (status : ℕ) (lines : List ErrorLine) : Type 0 where
  refused : (bytes : List ℕ) (kind : LoadKind) (number : ℕ) → AreKnownBytes content bytes
      → IsFirstFault format tree complete bytes kind number → status ≡ 4 → lines ≡ fault_line path number kind ∷ []
      → StopsAtFile content format strict tree path status lines
  unread : (front rest : List ℕ) (number : ℕ) → AreKnownBytes content (front ++ rest)
      → IsFirstFault format tree cut_short front Read number → status ≡ 5 → lines ≡ fault_line path number Read ∷ []
      → StopsAtFile content format strict tree path status lines
  unopened : OpensAs content None → status ≡ 5 → lines ≡ fault_line path 0 Read ∷ []
      → StopsAtFile content format strict tree path status lines
  noticed : (bytes : List ℕ) (meanings : List LineMeaning) → AreKnownBytes content bytes → IsAccepted format tree bytes
      → FileMeans format tree bytes meanings → RefusesNotices strict (notices_from 1 meanings) → status ≡ 4
      → lines ≡ file_notices tree path meanings → StopsAtFile content format strict tree path status lines

-- A command ends among its configuration files, with this status and these lines of standard error, the first of which are the
-- notices of earlier files: at one of the files, or since memory ran out.
pub data StopsAmongFiles (content_of : List ℕ → FileContent) (format : FileFormat) (strict : Bool) (tree : Tree) (paths : List (List ℕ)) (status : ℕ) (lines : List ErrorLine) : Type 0 where
  at_file : (front back : List (List ℕ)) (path : List ℕ) (own : List ErrorLine) (meanings : List (List LineMeaning)) → paths ≡ front ++ path ∷ back
      → FilesMean content_of format strict tree front meanings → StopsAtFile (content_of path) format strict tree path status own
      → lines ≡ notice_lines tree front meanings ++ own
      → StopsAmongFiles content_of format strict tree paths status lines
  for_memory : (front back : List (List ℕ)) (meanings : List (List LineMeaning)) → paths ≡ front ++ back
      → FilesMean content_of format strict tree front meanings → status ≡ 6 → lines ≡ notice_lines tree front meanings
      → StopsAmongFiles content_of format strict tree paths status lines

-- the configurations of a command, each by the paths of its files
abbrev pub configurations_of : Task → List (List (List ℕ))
configurations_of (over verb paths) = paths ∷ []
configurations_of (compare left right) = (left ∷ []) ∷ (right ∷ []) ∷ []

-- Some configurations, each by the paths of its files, have these lines for the notices on their choices, and aren't refused for
-- them.
pub data NoticesOnChoices (content_of : List ℕ → FileContent) (settings : Settings) (tree : Tree) : List (List (List ℕ)) → List ErrorLine → Type 0 where
  none : NoticesOnChoices content_of settings tree [] []
  more : (paths : List (List ℕ)) (meanings : List (List LineMeaning)) (values : List UnitValue) (others : List (List (List ℕ))) (lines : List ErrorLine)
      → Resolve content_of settings tree paths meanings values → AllowsNotices settings.strict (other_choices tree values meanings)
      → NoticesOnChoices content_of settings tree others lines
      → NoticesOnChoices content_of settings tree (paths ∷ others) (choice_notice_lines paths (other_choices tree values meanings) ++ lines)

-- A command ends with this status and these lines of standard error once all its configuration files were accepted, and the first of
-- its configurations solved: a configuration is refused for the notices on its choices, or memory ran out. The first lines are the
-- notices of the lines of all files, and then those on the choices of the configurations before.
pub data StopsAtChoices (content_of : List ℕ → FileContent) (settings : Settings) (tree : Tree) (task : Task) (status : ℕ) (lines : List ErrorLine) : Type 0 where
  refused : (all : List (List LineMeaning)) (front back : List (List (List ℕ))) (earlier : List ErrorLine) (paths : List (List ℕ))
      (meanings : List (List LineMeaning)) (values : List UnitValue) → FilesMean content_of settings.format settings.strict tree (paths_of task) all
      → configurations_of task ≡ front ++ paths ∷ back → NoticesOnChoices content_of settings tree front earlier
      → Resolve content_of settings tree paths meanings values → RefusesNotices settings.strict (other_choices tree values meanings) → status ≡ 4
      → lines ≡ notice_lines tree (paths_of task) all ++ (earlier ++ choice_notice_lines paths (other_choices tree values meanings))
      → StopsAtChoices content_of settings tree task status lines
  for_memory : (all : List (List LineMeaning)) (front back : List (List (List ℕ))) (earlier : List ErrorLine)
      → FilesMean content_of settings.format settings.strict tree (paths_of task) all → configurations_of task ≡ front ++ back
      → NoticesOnChoices content_of settings tree front earlier → status ≡ 6 → lines ≡ notice_lines tree (paths_of task) all ++ earlier
      → StopsAtChoices content_of settings tree task status lines

-- A command ends before it has an output, with this status and these lines of standard error: at its tree, among its
-- configuration files, at the choices of its configurations, or since memory ran out.
pub data StopsBefore (known : Surroundings) (counted counted_after : ℕ) (settings : Settings) (task : Task) (status : ℕ) (lines : List ErrorLine) : Type 0 where
  at_tree : StopsAtTree known counted counted_after settings status lines → StopsBefore known counted counted_after settings task status lines
  among_files : (t : TreeTexts) (tree : Tree) (more : List ErrorLine) → AreTextsOfJob known settings t → AreAccepted t.texts settings.tree tree
      → StopsAmongFiles known.content settings.format settings.strict tree (paths_of task) status more → lines ≡ t.lines ++ more
      → StopsBefore known counted counted_after settings task status lines
  at_choices : (t : TreeTexts) (tree : Tree) (more : List ErrorLine) → AreTextsOfJob known settings t → AreAccepted t.texts settings.tree tree
      → StopsAtChoices known.content settings tree task status more → lines ≡ t.lines ++ more
      → StopsBefore known counted counted_after settings task status lines
  for_memory : status ≡ 6 → lines ≡ [] → StopsBefore known counted counted_after settings task status lines

-- A command ends without its whole output, with this status and these lines of standard error: before it has an output, or at a
-- failed write of the output.
pub data Stops (known : Surroundings) (counted counted_after : ℕ) (settings : Settings) (task : Task) (status : ℕ) (lines : List ErrorLine) : Type 0 where
  before_output : StopsBefore known counted counted_after settings task status lines → Stops known counted counted_after settings task status lines
  at_write : (t : TreeTexts) (text : List ℕ) (made : ℕ) (notices : List ErrorLine) → AreTextsOfJob known settings t
      → HasOutput known.content settings t.texts task text made notices → status ≡ 5 → lines ≡ t.lines ++ notices ++ output_line ∷ []
      → Stops known counted counted_after settings task status lines

-- Ends of a run at a configuration file, by the kind of its fault.
use Rattle.std.specs.Prelude.{◌≡◌, ◌⊎◌, ℕ, Bool, List, [], ◌∷◌, map, Option}
use Rattle.kc_value.specs.FileContents.{FileContent}
use Rattle.kc_tree_model.specs.Trees.{Tree}
use Rattle.kc_dotconfig_model.specs.Formats.{FileFormat}
use Rattle.kc_dotconfig_model.specs.declared.fault.LoadKind.{LoadKind}
use Rattle.kc_dotconfig_model.specs.declared.fault.LoadKind.TheVariants.{Read, OutOfMemory}
use Rattle.kc_dotconfig.specs.declared.fragment.Fragment.{Fragment}
use Rattle.kc_dotconfig_model.specs.between.Notices.{notice_pair}
use Rattle.kc_dotconfig.specs.ReadResults.{ReportsFault}
use Rattle.kc_rules_model.specs.declared.values.UnitValue.{UnitValue}
use Rattle.kc_dotconfig_model.specs.declared.choice_line.ChoiceLine.{ChoiceLine}
use Rattle.kc_dotconfig_model.specs.OtherChoices.{other_choices_of, placed_from}
use Rattle.kmin_report.specs.Reports.{ErrorLine, fault_line, tree_notice_line, choice_notice_lines}
use Rattle.kmin_outputs.specs.Strictness.{RefusesNotices}
use Rattle.kmin_report.specs.StandardError.{SpelledBytes, TakesLines}
use Rattle.kmin_options.specs.Jobs.{Settings, Task, paths_of}
use Rattle.kmin_outputs.specs.Stops.{StopsAtFile, StopsAmongFiles, StopsAtChoices}

-- the exit status for a fault of a configuration file: 6 for lack of memory, 5 for a failed read, and 4 for any other fault
abbrev pub load_status : LoadKind → ℕ
load_status OutOfMemory = 6
load_status Read = 5
load_status _ = 4

-- the lines of standard error for a fault of a configuration file: one, or none for lack of memory, which is reported later
abbrev pub load_lines : (path : List ℕ) (number : ℕ) → LoadKind → List ErrorLine
load_lines path number OutOfMemory = []
load_lines path number kind = fault_line path number kind ∷ []

-- the lines of standard error for the notices of a fragment of the configuration file at a path, over a tree
abbrev pub fragment_notices : Tree → (path : List ℕ) → Fragment → List ErrorLine
fragment_notices tree path fragment = map (λ notice. tree_notice_line tree path (notice_pair notice)) fragment.notices.items

-- reading a configuration file ended with a fault of this exit status, which was reported on standard error
pub record StopsLoad (format : FileFormat) (tree : Tree) (path : List ℕ) (left left_after : Option (List ℕ)) (read_failed read_failed_after : ℕ) (status : ℕ) (taken : SpelledBytes) (failed : ℕ) (taken_after : SpelledBytes) (failed_after : ℕ) : Type 0 where
  pub kind : LoadKind
  pub number : ℕ
  pub fault : ReportsFault format tree left left_after read_failed read_failed_after kind number
  pub status_is : status ≡ load_status kind
  pub reported : TakesLines taken failed (load_lines path number kind) taken_after failed_after

-- a configuration file ended a run, with this status and these lines of standard error, or memory ran out
pub data StopsAtPath (content : FileContent) (format : FileFormat) (strict : Bool) (tree : Tree) (path : List ℕ) (status : ℕ) (lines : List ErrorLine) : Type 0 where
  at_file : StopsAtFile content format strict tree path status lines → StopsAtPath content format strict tree path status lines
  for_memory : status ≡ 6 → lines ≡ [] → StopsAtPath content format strict tree path status lines

-- A command over a settled tree ends without an output, with this status and these lines of standard error: among its configuration
-- files, or at the choices of its configurations.
abbrev pub StopsOverTree : (content_of : List ℕ → FileContent) (settings : Settings) (tree : Tree) (task : Task) (status : ℕ) (lines : List ErrorLine) → Type 0
StopsOverTree content_of settings tree task status lines =
    StopsAmongFiles content_of settings.format settings.strict tree (paths_of task) status lines ⊎ StopsAtChoices content_of settings tree task status lines

-- the notices on the choices of a configuration ended a run: it is refused for them, after they were reported on standard error, or
-- memory ran out before that
pub data StopsNoticing (tree : Tree) (values : List UnitValue) (strict : Bool) (paths : List (List ℕ)) (chosen : List (List ChoiceLine)) (status : ℕ) (taken : SpelledBytes) (failed : ℕ) (taken_after : SpelledBytes) (failed_after : ℕ) : Type 0 where
  refused : RefusesNotices strict (other_choices_of tree values (placed_from 0 chosen)) → status ≡ 4
      → TakesLines taken failed (choice_notice_lines paths (other_choices_of tree values (placed_from 0 chosen))) taken_after failed_after
      → StopsNoticing tree values strict paths chosen status taken failed taken_after failed_after
  for_memory : status ≡ 6 → TakesLines taken failed [] taken_after failed_after
      → StopsNoticing tree values strict paths chosen status taken failed taken_after failed_after

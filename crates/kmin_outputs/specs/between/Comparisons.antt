-- Configurations that were read, the notices on their choices, and ends of a run there.
use Rattle.std.specs.Prelude.{◌≡◌, ℕ, Bool, List, [], ◌∷◌}
use Rattle.kc_value.specs.FileContents.{FileContent}
use Rattle.kc_tree_model.specs.Trees.{Tree}
use Rattle.kc_dotconfig_model.specs.Formats.{FileFormat}
use Rattle.kc_dotconfig_model.specs.ConfigFiles.{empty_assignment}
use Rattle.kc_dotconfig_model.specs.OtherChoices.{other_choices_of, placed_from}
use Rattle.kc_config.specs.ConfigStates.{tree_in}
use Rattle.kmin_report.specs.Reports.{choice_notice_lines}
use Rattle.kmin_report.specs.StandardError.{SpelledBytes, TakesLines}
use Rattle.kmin_outputs.specs.declared.configurations.ReadFiles.{ReadFiles}
use Rattle.kmin_outputs.specs.Strictness.{AllowsNotices}
use Rattle.kmin_outputs.specs.between.LoadResults.{AreRead, lists_of}
use Rattle.kmin_outputs.specs.between.LoadStops.{StopsNoticing}

-- two configurations of one file each were read, first the left one
pub record AreBothRead (content_of : List ℕ → FileContent) (format : FileFormat) (strict : Bool) (tree : Tree) (left right : List ℕ) (before after : ReadFiles) (taken : SpelledBytes) (failed : ℕ) (taken_after : SpelledBytes) (failed_after : ℕ) : Type 0 where
  pub between : SpelledBytes
  pub failed_between : ℕ
  pub left_read : AreRead content_of format strict tree (left ∷ []) (empty_assignment tree) before.config.users [] (lists_of before.chosen.items) taken failed between failed_between
  pub right_read : AreRead content_of format strict tree (right ∷ []) (empty_assignment tree) after.config.users [] (lists_of after.chosen.items) between failed_between taken_after failed_after

-- the notices on the choices of a configuration of files at these paths were reported, and it isn't refused for them
pub record AreNoticed (strict : Bool) (paths : List (List ℕ)) (read : ReadFiles) (taken : SpelledBytes) (failed : ℕ) (taken_after : SpelledBytes) (failed_after : ℕ) : Type 0 where
  pub allowed : AllowsNotices strict (other_choices_of (tree_in read.config) read.config.values (placed_from 0 (lists_of read.chosen.items)))
  pub noticed : TakesLines taken failed (choice_notice_lines paths (other_choices_of (tree_in read.config) read.config.values (placed_from 0 (lists_of read.chosen.items)))) taken_after failed_after

-- the same of two configurations of one file each, first of the left one
pub record AreBothNoticed (strict : Bool) (left right : List ℕ) (before after : ReadFiles) (taken : SpelledBytes) (failed : ℕ) (taken_after : SpelledBytes) (failed_after : ℕ) : Type 0 where
  pub between : SpelledBytes
  pub failed_between : ℕ
  pub left_noticed : AreNoticed strict (left ∷ []) before taken failed between failed_between
  pub right_noticed : AreNoticed strict (right ∷ []) after between failed_between taken_after failed_after

-- a verb over a configuration ended without an output: at the notices on its choices, or since memory ran out after they were reported
pub data StopsProducingOutput (strict : Bool) (paths : List (List ℕ)) (read : ReadFiles) (status : ℕ) (taken : SpelledBytes) (failed : ℕ) (taken_after : SpelledBytes) (failed_after : ℕ) : Type 0 where
  at_the_choices : StopsNoticing (tree_in read.config) read.config.values strict paths (lists_of read.chosen.items) status taken failed taken_after failed_after
      → StopsProducingOutput strict paths read status taken failed taken_after failed_after
  producing_output : AreNoticed strict paths read taken failed taken_after failed_after → status ≡ 6
      → StopsProducingOutput strict paths read status taken failed taken_after failed_after

-- a comparison of two configurations of one file each ended without an output: at the notices on the choices of the left one, or of
-- the right one, or since memory ran out after all of these were reported
pub data StopsComparing (strict : Bool) (left right : List ℕ) (before after : ReadFiles) (status : ℕ) (taken : SpelledBytes) (failed : ℕ) (taken_after : SpelledBytes) (failed_after : ℕ) : Type 0 where
  at_left : StopsNoticing (tree_in before.config) before.config.values strict (left ∷ []) (lists_of before.chosen.items) status taken failed taken_after failed_after
      → StopsComparing strict left right before after status taken failed taken_after failed_after
  at_right : (between : SpelledBytes) (failed_between : ℕ) → AreNoticed strict (left ∷ []) before taken failed between failed_between
      → StopsNoticing (tree_in after.config) after.config.values strict (right ∷ []) (lists_of after.chosen.items) status between failed_between taken_after failed_after
      → StopsComparing strict left right before after status taken failed taken_after failed_after
  comparing_output : AreBothNoticed strict left right before after taken failed taken_after failed_after → status ≡ 6
      → StopsComparing strict left right before after status taken failed taken_after failed_after

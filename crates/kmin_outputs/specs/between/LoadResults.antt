-- Results of reading configuration files.
use Rattle.std.specs.Prelude.{◌≡◌, ℕ, Bool, List, ◌++◌, Option, map}
use Rattle.std.specs.Global.{Vec}
use Rattle.kc_value.specs.FileContents.{FileContent, AreKnownBytes}
use Rattle.kc_tree_model.specs.Trees.{Tree}
use Rattle.kc_rules_model.specs.declared.values.UserValue.{UserValue}
use Rattle.kc_dotconfig_model.specs.Formats.{FileFormat}
use Rattle.kc_dotconfig_model.specs.ConfigLines.{LineMeaning}
use Rattle.kc_dotconfig_model.specs.ConfigFiles.{FileMeans, notices_from, file_assignment, merged_files}
use Rattle.kc_dotconfig_model.specs.LoadFaults.{IsAccepted}
use Rattle.kc_dotconfig_model.specs.declared.choice_line.ChoiceLine.{ChoiceLine}
use Rattle.kc_dotconfig_model.specs.OtherChoices.{choice_lines_from}
use Rattle.kc_dotconfig.specs.declared.fragment.Fragment.{Fragment}
use Rattle.kc_dotconfig.specs.Fragments.{users_of}
use Rattle.kc_dotconfig_model.specs.between.Notices.{notice_pair}
use Rattle.kmin_report.specs.Reports.{file_notices, notice_lines}
use Rattle.kmin_report.specs.StandardError.{SpelledBytes, TakesLines}
use Rattle.kmin_outputs.specs.Outputs.{FilesMean}

-- a configuration file, whose bytes match what is known of it, is accepted, `fragment` has its assignments and notices, and its
-- notices were reported on standard error
pub record IsLoaded (content : FileContent) (format : FileFormat) (tree : Tree) (path : List ℕ) (fragment : Fragment) (taken : SpelledBytes) (failed : ℕ) (taken_after : SpelledBytes) (failed_after : ℕ) : Type 0 where
  pub bytes : List ℕ
  pub meanings : List LineMeaning
  pub matches : AreKnownBytes content bytes
  pub accepted : IsAccepted format tree bytes
  pub means : FileMeans format tree bytes meanings
  pub users : users_of tree fragment.assigns.items ≡ file_assignment tree meanings
  pub noted : map notice_pair fragment.notices.items ≡ notices_from 1 meanings
  pub chosen : fragment.chosen.items ≡ choice_lines_from 1 meanings
  pub reported : TakesLines taken failed (file_notices tree path meanings) taken_after failed_after

-- configuration files, whose bytes match what is known of them, are accepted, `users` is the assignment `before` overridden by
-- theirs, and their notices were reported on standard error
pub record AreLoaded (content_of : List ℕ → FileContent) (format : FileFormat) (strict : Bool) (tree : Tree) (paths : List (List ℕ)) (before users : List (Option UserValue)) (taken : SpelledBytes) (failed : ℕ) (taken_after : SpelledBytes) (failed_after : ℕ) : Type 0 where
  pub meanings : List (List LineMeaning)
  pub mean : FilesMean content_of format strict tree paths meanings
  pub users_are : users ≡ merged_files tree before meanings
  pub reported : TakesLines taken failed (notice_lines tree paths meanings) taken_after failed_after

-- the lines of members of several files, from the vectors that hold them
abbrev pub lists_of : List (Vec ChoiceLine) → List (List ChoiceLine)
lists_of chosen = map (λ (lines : Vec ChoiceLine). lines.items) chosen

-- configuration files are loaded as `AreLoaded` has it, and `chosen` are the lists `chosen_before` and after them the lines of
-- members of each of the files
pub record AreRead (content_of : List ℕ → FileContent) (format : FileFormat) (strict : Bool) (tree : Tree) (paths : List (List ℕ)) (before users : List (Option UserValue)) (chosen_before chosen : List (List ChoiceLine)) (taken : SpelledBytes) (failed : ℕ) (taken_after : SpelledBytes) (failed_after : ℕ) : Type 0 where
  pub loaded : AreLoaded content_of format strict tree paths before users taken failed taken_after failed_after
  pub chosen_are : chosen ≡ chosen_before ++ map (choice_lines_from 1) loaded.meanings

-- Configuration files with their last lines, as the code has them.
use Rattle.std.specs.Prelude.{◌≡◌, ℕ, Bool, List, ◌++◌, Option}
use Rattle.std.specs.List.{AllZip}
use Rattle.kc_value.specs.FileContents.{FileContent}
use Rattle.kc_tree_model.specs.Trees.{Tree}
use Rattle.kc_rules_model.specs.declared.values.UserValue.{UserValue}
use Rattle.kc_dotconfig_model.specs.Formats.{FileFormat}
use Rattle.kc_dotconfig_model.specs.declared.choice_line.ChoiceLine.{ChoiceLine}
use Rattle.kc_config_reasons.specs.between.FileLines.{KeepsLines}
use Rattle.kc_config_reasons.specs.declared.file_lines.FileLines.{FileLines}
use Rattle.kmin_report.specs.StandardError.{SpelledBytes}
use Rattle.kmin_outputs.specs.between.LoadResults.{IsLoaded, AreRead}
use Rattle.kmin_explain_command.specs.declared.lined_file.LinedFile.{LinedFile}

-- a configuration file is loaded, and its last lines are kept
pub record IsLinedFile (content : FileContent) (format : FileFormat) (tree : Tree) (path : List ℕ) (file : LinedFile) (taken : SpelledBytes) (failed : ℕ) (taken_after : SpelledBytes) (failed_after : ℕ) : Type 0 where
  pub loaded : IsLoaded content format tree path file.fragment taken failed taken_after failed_after
  pub kept : KeepsLines tree loaded.meanings file.lines

-- configuration files are read, and the last lines of each are kept
pub record AreLined (content_of : List ℕ → FileContent) (format : FileFormat) (strict : Bool) (tree : Tree) (paths : List (List ℕ)) (before users : List (Option UserValue)) (chosen_before chosen : List (List ChoiceLine)) (lines_before lines : List FileLines) (taken : SpelledBytes) (failed : ℕ) (taken_after : SpelledBytes) (failed_after : ℕ) : Type 0 where
  pub read : AreRead content_of format strict tree paths before users chosen_before chosen taken failed taken_after failed_after
  pub more : List FileLines
  pub lines_are : lines ≡ lines_before ++ more
  pub kept : AllZip (KeepsLines tree) read.loaded.meanings more

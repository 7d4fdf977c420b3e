-- The texts of a job's tree, with or without the expansion of macros.
use Rattle.std.specs.Prelude.{◌≡◌, ℕ, List, [], ◌∷◌, Some, None, Ok, map, if◌then◌else◌}
use Rattle.std.specs.Str.{is_utf8}
use Rattle.kc_tokens.specs.declared.language.Language.{Language}
use Rattle.kc_tree_model.specs.TreeFiles.{Files, with_file}
use Rattle.kc_macros_model.specs.Programs.{Notice}
use Rattle.kc_macros_model.specs.AnswerFiles.{RecordedAnswers}
use Rattle.kc_macros_model.specs.ReadingStates.{ExpandedFile}
use Rattle.kc_expansion.specs.Expansions.{IsExpansion}
use Rattle.kmin_options.specs.Jobs.{GivenExpansion, Settings}
use Rattle.kmin_inputs.specs.FileContents.{Surroundings, AreTextsBelow}
use Rattle.kmin_expansions.specs.TreeFolders.{contents_below}
use Rattle.kmin_inputs.specs.JobAnswers.{AreJobAnswers}
use Rattle.kmin_report.specs.FileNames.{named_texts}
use Rattle.kmin_report.specs.Reports.{ErrorLine, macro_notice_line}

-- the texts of a tree with one more expanded file, at its key, which is its path in `source` lines; a file whose key isn't UTF-8
-- can't be sourced, and is left out
abbrev pub with_expanded_file : ExpandedFile → Files → Files
with_expanded_file f texts = if is_utf8 f.key then with_file texts f.key f.text else texts

-- the texts of a tree with more expanded files, in order
abbrev pub with_expanded_files : List ExpandedFile → Files → Files
with_expanded_files [] texts = texts
with_expanded_files (f ∷ fs) texts = with_expanded_files fs (with_expanded_file f texts)

-- the texts of a tree in this language that has no files
abbrev pub no_texts : Language → Files
no_texts language = record { language = language; list = [] }

-- the texts of a tree in this language that has these expanded files, each at its key, which is its path in `source` lines
abbrev pub expanded_texts : Language → List ExpandedFile → Files
expanded_texts language files = with_expanded_files files (no_texts language)

-- the texts of a tree, the same texts by their names in messages, and the lines of standard error for the notices of their
-- expansion
pub record TreeTexts : Type 0 where
  pub texts : Files
  pub names : Files
  pub lines : List ErrorLine

-- these texts, names and lines are those of the expansion of a job's tree, in this language
pub record AreExpandedTexts (known : Surroundings) (root first : List ℕ) (language : Language) (expansion : GivenExpansion) (t : TreeTexts) : Type 0 where
  pub answers : RecordedAnswers
  pub answered : AreJobAnswers known.content known.variable expansion answers
  pub notices : List Notice
  pub files : List ExpandedFile
  pub expanded : IsExpansion (contents_below known root) answers first notices (Ok files)
  pub texts : t.texts ≡ expanded_texts language files
  pub names : t.names ≡ named_texts files t.texts
  pub lines : t.lines ≡ map macro_notice_line notices

-- these texts are those of a job's tree: its files as they are, or expanded if an option turns the expansion of macros on
pub data AreTextsOfJob (known : Surroundings) (settings : Settings) (t : TreeTexts) : Type 0 where
  as_they_are : settings.expansion ≡ None → AreTextsBelow known.content settings.root settings.language t.texts → t.names ≡ t.texts → t.lines ≡ []
      → AreTextsOfJob known settings t
  expanded : (expansion : GivenExpansion) → settings.expansion ≡ Some expansion → AreExpandedTexts known settings.root settings.tree settings.language expansion t
      → AreTextsOfJob known settings t

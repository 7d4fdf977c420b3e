-- The expanded tree that known files, folders and answers determine.
use Rattle.std.specs.Prelude.{◌≡◌, ◌≢◌, ℕ, List, None, map}
use Rattle.kc_value.specs.FileContents.{unknown}
use Rattle.kc_tokens.specs.declared.language.Language.{Language}
use Rattle.kc_macros_model.specs.AnswerFiles.{RecordedAnswers}
use Rattle.kc_macros_model.specs.ReadingStates.{ExpandedFile}
use Rattle.kc_macros_model.specs.Worlds.{Outcome, returned, expansion}
use Rattle.kc_expansion.specs.Expansions.{known_world}
use Rattle.kmin_options.specs.Jobs.{GivenExpansion}
use Rattle.kmin_inputs.specs.FileContents.{Surroundings, path_below}
use Rattle.kmin_expansions.specs.TreeFolders.{contents_below}
use Rattle.kmin_inputs.specs.JobAnswers.{AreJobAnswers}
use Rattle.kmin_expansions.specs.JobTexts.{TreeTexts, expanded_texts, AreExpandedTexts}
use Rattle.kmin_report.specs.FileNames.{named_texts}
use Rattle.kmin_report.specs.Reports.{macro_notice_line}

-- the expansion of the tree with the first file `first`, in which each file and each folder below the root is as it is known, with
-- these answers
abbrev pub known_expansion : Surroundings → (root first : List ℕ) → RecordedAnswers → Outcome (List ExpandedFile)
known_expansion known root first answers = expansion (known_world (contents_below known root) answers) first

-- these texts, names and lines are those of the expansion of the known tree below a root, with answers of the job
pub record AreKnownTexts (known : Surroundings) (root first : List ℕ) (language : Language) (job : GivenExpansion) (t : TreeTexts) : Type 0 where
  pub answers : RecordedAnswers
  pub answered : AreJobAnswers known.content known.variable job answers
  pub files : List ExpandedFile
  pub expanded : (known_expansion known root first answers).ending ≡ returned files
  pub texts : t.texts ≡ expanded_texts language files
  pub names : t.names ≡ named_texts files t.texts
  pub lines : t.lines ≡ map macro_notice_line (known_expansion known root first answers).notices

-- where each regular file and each folder below the root is known, the texts of an expanded tree are those of the known tree
abbrev pub KnownFilesDetermineTheExpandedTree : Type 0
KnownFilesDetermineTheExpandedTree = (known : Surroundings) (root first : List ℕ) (language : Language) (job : GivenExpansion) (t : TreeTexts)
    → ((path : List ℕ) → known.regular (path_below root path) ≢ unknown) → ((folder : List ℕ) → known.names (path_below root folder) ≢ None)
    → AreExpandedTexts known root first language job t → AreKnownTexts known root first language job t

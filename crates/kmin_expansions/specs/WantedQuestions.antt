-- The open questions of a tree's macros, and the answers that they don't use. `counted` and `counted_after` are how many calls on
-- files failed before and after.
use Rattle.std.specs.Prelude.{◌≡◌, ℕ, ◌<◌, Bool, true, false, List, [], ◌∷◌, ◌++◌, Option, Result, Ok, Err, length, take}
use Rattle.std.specs.List.{flat_map}
use Rattle.std.specs.Io.KnownBytes.{Appends}
use Rattle.kc_macros_model.specs.Programs.{Fault}
use Rattle.kc_macros_model.specs.AnswerFiles.{RecordedAnswers}
use Rattle.kc_answers.specs.RunStates.{questions_of}
use Rattle.kc_files.specs.TreeContents.{TreeContents}
use Rattle.kc_expansion.specs.Expansions.{AreCountedWanted, AreCountedUnused}
use Rattle.kmin_options.specs.Jobs.{Questions}
use Rattle.kmin_inputs.specs.FileContents.{Surroundings}
use Rattle.kmin_inputs.specs.JobAnswers.{AreJobAnswers}
use Rattle.kmin_expansions.specs.TreeFolders.{contents_below}
use Rattle.kmin_inputs.specs.AnswerStops.{StopsAmongAnswers}
use Rattle.kmin_report.specs.Reports.{ErrorLine, output_line, macro_fault_line}

-- what `wants` lists of a tree with these answers: its open questions; with `--unused` where none is open the questions of the
-- answers `recorded` of answer files that the tree doesn't ask, in their order; or the fault of the tree's expansion. Unless the
-- count of failed calls rose, it is that of the known files and folders as they are.
abbrev pub AreListed : (unused : Bool) → TreeContents → (counted counted_after : ℕ) → (answers recorded : RecordedAnswers) → (root : List ℕ) → Result (List (List ℕ)) Fault → Type 0
AreListed false contents counted counted_after answers recorded root listed = AreCountedWanted contents counted counted_after answers root listed
AreListed true contents counted counted_after answers recorded root listed =
    AreCountedUnused contents counted counted_after answers root (questions_of recorded) listed

-- the result of the command `wants` for a tree: the questions that it lists, or if there are none the fault of the expansion
pub record AreAsked (known : Surroundings) (counted counted_after : ℕ) (questions : Questions) (asked : Result (List (List ℕ)) Fault) : Type 0 where
  pub answers : RecordedAnswers
  pub answered : AreJobAnswers known.content known.variable questions.expansion answers
  pub wanted : AreListed questions.unused (contents_below known questions.root) counted counted_after answers answered.recorded questions.tree asked

-- the line of standard output for a question: its text and a newline
abbrev pub question_line : List ℕ → List ℕ
question_line question = question ++ 10 ∷ []

-- the lines of standard output for listed questions, in order
abbrev pub questions_text : List (List ℕ) → List ℕ
questions_text asked = flat_map question_line asked

-- The command `wants` ends early, with this status and these lines of standard error: among its answer files, at the fault of an
-- expansion without open questions, at a failed write, or since memory ran out.
pub data StopsWanting (known : Surroundings) (counted counted_after : ℕ) (questions : Questions) (status : ℕ) (lines : List ErrorLine) : Type 0 where
  among_answers : StopsAmongAnswers known.content questions.expansion.answers status lines → StopsWanting known counted counted_after questions status lines
  at_fault : (fault : Fault) → AreAsked known counted counted_after questions (Err fault) → status ≡ 3 → lines ≡ macro_fault_line fault ∷ []
      → StopsWanting known counted counted_after questions status lines
  at_write : (asked : List (List ℕ)) → AreAsked known counted counted_after questions (Ok asked) → status ≡ 5 → lines ≡ output_line ∷ []
      → StopsWanting known counted counted_after questions status lines
  for_memory : status ≡ 6 → lines ≡ [] → StopsWanting known counted counted_after questions status lines

-- standard output took the first bytes of the list of questions, but not all of them
pub record AsksInPart (known : Surroundings) (counted counted_after : ℕ) (questions : Questions) (taken taken_after : Option (List ℕ)) : Type 0 where
  pub asked : List (List ℕ)
  pub are : AreAsked known counted counted_after questions (Ok asked)
  pub written : ℕ
  pub part : written < length (questions_text asked)
  pub took : Appends taken taken_after (take written (questions_text asked))

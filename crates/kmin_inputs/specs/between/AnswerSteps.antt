-- The steps in which the answers to a job's questions are read.
use Rattle.std.specs.Prelude.{◌≡◌, ℕ, List, [], ◌∷◌, Option}
use Rattle.std.specs.Option.{option_or}
use Rattle.kc_value.specs.FileContents.{FileContent}
use Rattle.kc_tree_model.specs.Keywords.{keyword_in_table}
use Rattle.kc_macros_model.specs.declared.fault.AnswersKind.{AnswersKind}
use Rattle.kc_macros_model.specs.declared.fault.AnswersKind.TheVariants.{OutOfMemory}
use Rattle.kc_macros_model.specs.declared.fault.AnswersFault.{AnswersFault}
use Rattle.kc_macros_model.specs.AnswerFiles.{RecordedAnswers}
use Rattle.kc_answers.specs.ReadAnswers.{AreAnswersRefused}
use Rattle.kmin_inputs.specs.FileContents.{VariableContent, MatchVariable}
use Rattle.kmin_report.specs.StandardError.{SpelledBytes, TakesLines}
use Rattle.kmin_report.specs.Reports.{ErrorLine, answers_line}
use Rattle.kmin_options.specs.Jobs.{GivenExpansion}
use Rattle.kc_answers.specs.RunStates.{questions_of}
use Rattle.kmin_inputs.specs.JobAnswers.{lent_answer, AreJobAnswers}
use Rattle.kmin_inputs.specs.AnswerStops.{StopsAtAnswers, answers_status}

-- the lines of standard error for a fault of an answer file: one, or none for lack of memory, which is reported later
abbrev pub answers_lines : (path : List ℕ) (line : ℕ) → AnswersKind → List ErrorLine
answers_lines path line OutOfMemory = []
answers_lines path line kind = answers_line path line kind ∷ []

-- reading an answer file may end with this fault: memory ran out, or the file is refused
pub data ReportsAnswersFault (left left_after : Option (List ℕ)) (failed failed_after : ℕ) (earlier : RecordedAnswers) (fault : AnswersFault) : Type 0 where
  for_memory : fault.kind ≡ OutOfMemory → ReportsAnswersFault left left_after failed failed_after earlier fault
  refused : AreAnswersRefused left left_after failed failed_after earlier fault → ReportsAnswersFault left left_after failed failed_after earlier fault

-- reading an answer file ended with a fault of this exit status, which was reported on standard error
pub record StopsReading (path : List ℕ) (left left_after : Option (List ℕ)) (read_failed read_failed_after : ℕ) (earlier : RecordedAnswers) (status : ℕ) (taken : SpelledBytes) (failed : ℕ) (taken_after : SpelledBytes) (failed_after : ℕ) : Type 0 where
  pub fault : AnswersFault
  pub reports : ReportsAnswersFault left left_after read_failed read_failed_after earlier fault
  pub status_is : status ≡ answers_status fault.kind
  pub reported : TakesLines taken failed (answers_lines path fault.line fault.kind) taken_after failed_after

-- an answer file ended a run, with this status and these lines of standard error, or memory ran out
pub data StopsAtAnswersPath (content : FileContent) (earlier : RecordedAnswers) (path : List ℕ) (status : ℕ) (lines : List ErrorLine) : Type 0 where
  at_file : (line : ErrorLine) → StopsAtAnswers content earlier path status line → lines ≡ line ∷ [] → StopsAtAnswersPath content earlier path status lines
  for_memory : status ≡ 6 → lines ≡ [] → StopsAtAnswersPath content earlier path status lines

-- `after` has the answers of `before`, and to each of `names` without one the answer of the environment; the values of variables
-- agree with what is known of them
pub record AreLent (variable_of : List ℕ → VariableContent) (names : List (List ℕ)) (before after : RecordedAnswers) : Type 0 where
  pub values : List ℕ → Option (List ℕ)
  pub environment : (name : List ℕ) → MatchVariable (variable_of name) (values name)
  pub each : (question : List ℕ) → keyword_in_table after question ≡ option_or (keyword_in_table before question) (lent_answer names values question)

-- the answers to a job's questions, and the questions that its answer files answer, in order of their first answers
pub record AnswersAndQuestions (content_of : List ℕ → FileContent) (variable_of : List ℕ → VariableContent) (expansion : GivenExpansion) (answers : RecordedAnswers) (answered : List (List ℕ)) : Type 0 where
  pub job : AreJobAnswers content_of variable_of expansion answers
  pub answered_are : answered ≡ questions_of job.recorded

-- The answers to the questions of the macros of a job's tree.
use Rattle.std.specs.Prelude.{◌≡◌, ℕ, ◌||◌, nat_lt, List, [], ◌∷◌, length, Option, Some, None, Ok, bytes_eq, if◌then◌else◌}
use Rattle.std.specs.Option.{option_or}
use Rattle.kc_value.specs.declared.limits.TheConstants.{MAX_VARIABLE_BYTES}
use Rattle.kc_tree_model.specs.Keywords.{keyword_in_table}
use Rattle.kc_tree_model.specs.Limits.{is_in_list}
use Rattle.kc_value.specs.Lines.{has_newline}
use Rattle.kc_value.specs.FileContents.{FileContent, AreKnownBytes}
use Rattle.kc_macros_model.specs.Programs.{Answer}
use Rattle.kc_macros_model.specs.AnswerFiles.{RecordedAnswers, complete, answers_read}
use Rattle.kmin_options.specs.Jobs.{Definition, GivenExpansion}
use Rattle.kmin_inputs.specs.FileContents.{VariableContent, MatchVariable}

-- Answer files, whose bytes match what is known of them, are accepted, and their answers added to `earlier` give `recorded`.
pub data FilesRecord (content_of : List ℕ → FileContent) : List (List ℕ) → (earlier recorded : RecordedAnswers) → Type 0 where
  none : (recorded : RecordedAnswers) → FilesRecord content_of [] recorded recorded
  file : (path bytes : List ℕ) (paths : List (List ℕ)) (earlier middle recorded : RecordedAnswers) → AreKnownBytes (content_of path) bytes
      → answers_read complete bytes earlier ≡ Ok middle → FilesRecord content_of paths middle recorded → FilesRecord content_of (path ∷ paths) earlier recorded

-- the answer that definitions give to a name: the value of the last one for it, if there is one
abbrev pub defined_answer : List Definition → (name : List ℕ) → Option Answer
defined_answer [] name = None
defined_answer (d ∷ ds) name = option_or (defined_answer ds name) (if bytes_eq name d.name then Some (Some d.value) else None)

-- the answer of a variable of the environment: its value; one with a newline, or of more than `MAX_VARIABLE_BYTES` bytes, counts
-- as not set
abbrev pub answer_of_variable : Option (List ℕ) → Answer
answer_of_variable None = None
answer_of_variable (Some value) = if has_newline value || nat_lt MAX_VARIABLE_BYTES (length value) then None else Some value

-- the answer that the environment, whose variables have these values, gives to a name; none unless the name is one of `names`
abbrev pub lent_answer : (names : List (List ℕ)) → (values : List ℕ → Option (List ℕ)) → (name : List ℕ) → Option Answer
lent_answer names values name = if is_in_list name names then Some (answer_of_variable (values name)) else None

-- the answer to a question: that of the definitions, or without one that of the answer files, or without one that of the
-- environment
abbrev pub answer_to : GivenExpansion → RecordedAnswers → (values : List ℕ → Option (List ℕ)) → (question : List ℕ) → Option Answer
answer_to expansion recorded values question =
    option_or (defined_answer expansion.definitions question)
    (option_or (keyword_in_table recorded question) (lent_answer expansion.environment values question))

-- each question has the answer of a job's definitions, answer files and environment; files and variables agree with what is known
-- of them
pub record AreJobAnswers (content_of : List ℕ → FileContent) (variable_of : List ℕ → VariableContent) (expansion : GivenExpansion) (answers : RecordedAnswers) : Type 0 where
  pub recorded : RecordedAnswers
  pub files : FilesRecord content_of expansion.answers [] recorded
  pub values : List ℕ → Option (List ℕ)
  pub environment : (name : List ℕ) → MatchVariable (variable_of name) (values name)
  pub each : (question : List ℕ) → keyword_in_table answers question ≡ answer_to expansion recorded values question

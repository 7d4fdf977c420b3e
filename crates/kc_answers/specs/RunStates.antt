-- The state of a run of an expansion.
use Rattle.std.specs.Prelude.{ℕ, Bool, List, [], ◌∷◌, ◌++◌, filter, is_none, map, if◌then◌else◌}
use Rattle.kc_tree_model.specs.Keywords.{keyword_in_table}
use Rattle.kc_tree_model.specs.Limits.{is_in_list}
use Rattle.kc_value.specs.declared.limits.TheConstants.{MAX_WORK}
use Rattle.kc_macros_model.specs.Programs.{Notice, Answer}
use Rattle.kc_macros_model.specs.AnswerFiles.{RecordedAnswers}
use Rattle.kc_macros_model.specs.Worlds.{Outcome}

-- the state of a run of the expansion: the answers, whether each question must have an answer, the work that is left, the notices
-- so far, and the questions asked so far, each once in order of first sight
pub record RunState : Type 0 where
  pub answers : RecordedAnswers
  pub all_answered : Bool
  pub left : ℕ
  pub notices : List Notice
  pub questions : List (List ℕ)

-- the questions that recorded answers answer, in their order
abbrev pub questions_of : RecordedAnswers → List (List ℕ)
questions_of es = map (λ (e : List ℕ × Answer). e.0) es

-- the questions of a run that its answers don't answer, in their order
abbrev pub open_questions : RunState → List (List ℕ)
open_questions s = filter (λ question. is_none (keyword_in_table s.answers question)) s.questions

-- the state of a run of the expansion at its start: no work is spent, and there are no notices and no questions
abbrev pub run_at_start : RecordedAnswers → Bool → RunState
run_at_start answers all_answered = record { answers = answers; all_answered = all_answered; left = MAX_WORK; notices = []; questions = [] }

-- a list of questions with this question at its end, unless the list has it already
abbrev pub with_question : List (List ℕ) → List ℕ → List (List ℕ)
with_question questions question = if is_in_list question questions then questions else questions ++ question ∷ []

-- a list of questions with all questions of another list at its end, in order, but for those that it has already
abbrev pub with_questions : List (List ℕ) → List (List ℕ) → List (List ℕ)
with_questions questions [] = questions
with_questions questions (question ∷ more) = with_questions (with_question questions question) more

-- the state of a run of the expansion after a program with this outcome, given the state before
abbrev pub after_outcome : {A : Type 0} → RunState → Outcome A → RunState
after_outcome s o = record s { left = o.left; notices = s.notices ++ o.notices; questions = with_questions s.questions o.questions }

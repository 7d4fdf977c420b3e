-- A program in a world that replies: its notices, its questions, and its end.
use Rattle.std.specs.Prelude.{ℕ, ◌-◌, Bool, true, false, not, ◌||◌, is_some, is_none, nat_lt, List, [], ◌∷◌, ◌++◌, filter, reverse, Option, Some, None, Result, Ok, Err, if◌then◌else◌}
use Rattle.kc_tree_model.specs.Limits.{is_in_list, without_repeats}
use Rattle.kc_macros_model.specs.declared.fault.MacroKind.TheVariants.{Unanswered, TooMany}
use Rattle.kc_value.specs.declared.limits.TheConstants.{MAX_WORK}
use Rattle.kc_macros_model.specs.Programs.{Place, Fault, Notice, Answer, Event, spend, report, ask, read_file, find_file, list_folder, Reply, Program, returns, fails, stops, does}
use Rattle.kc_macros_model.specs.ReadingStates.{ExpandedFile}
use Rattle.kc_macros_model.specs.TreeExpansion.{tree_read}

-- The outside of a reading: answers to questions, the bytes of paths that can be read, at which other paths a file is that can't be
-- read, and the names in folders (whose paths are empty or end in `/`); `None` for a folder that is there and can't be listed.
pub record World : Type 0 where
  pub answer : List ℕ → Option Answer
  pub bytes : List ℕ → Option (List ℕ)
  pub unreadable : List ℕ → Bool
  pub names : List ℕ → Option (List (List ℕ))

-- whether a file is at a path in a world, also one that can't be read
abbrev pub has_file : World → List ℕ → Bool
has_file w path = is_some (w.bytes path) || w.unreadable path

-- the reply of a world, with its answers, files and folders, to an event of a program
abbrev pub reply : World → (event : Event) → Reply event
reply w (spend at work) = tt {0}
reply w (report notice) = tt {0}
reply w (ask at question) = w.answer question
reply w (read_file path) = w.bytes path
reply w (find_file path) = has_file w path
reply w (list_folder folder) = w.names folder

-- the notice that an event of a program reports, or none
abbrev pub notices_of : Event → List Notice
notices_of (report notice) = notice ∷ []
notices_of e = []

-- the question that an event of a program asks, or none
abbrev pub question_of : Event → List (List ℕ)
question_of (ask at question) = question ∷ []
question_of e = []

-- the work that is left, or the fault `Unanswered` where the question has no answer
abbrev pub unless_unanswered : Place → List ℕ → ℕ → Option Answer → Result ℕ Fault
unless_unanswered at question left None = Err (record { at = at; kind = Unanswered; text = question })
unless_unanswered at question left (Some a) = Ok left

-- the work that is left after an event, or its fault: more work than is left, or an open question where all must be answered
abbrev pub left_after : (all_answered : Bool) → World → ℕ → Event → Result ℕ Fault
left_after all w left (spend at work) = if nat_lt left work then Err (record { at = at; kind = TooMany; text = [] }) else Ok (left - work)
left_after true w left (ask at question) = unless_unanswered at question left (w.answer question)
left_after false w left (ask at question) = Ok left
left_after all w left e = Ok left

-- how a program ends: it returns a value, fails, or stops since the rest depends on an open question
pub data Ending (A : Type 0) : Type 0 where
  returned : A → Ending A
  failed : Fault → Ending A
  stopped : Ending A

-- the outcome of a program: its notices and the questions that it asks in order, the work that is left, and its end
pub record Outcome (A : Type 0) : Type 0 where
  pub notices : List Notice
  pub questions : List (List ℕ)
  pub left : ℕ
  pub ending : Ending A

-- the outcome of a program that ends at once, without notices and questions, with this much work left
abbrev pub ended : {A : Type 0} → ℕ → Ending A → Outcome A
ended left e = record { notices = []; questions = []; left = left; ending = e }

-- the outcome of a program that begins with an event, given the outcome of the rest of the program
abbrev pub after_event : {A : Type 0} → Event → Outcome A → Outcome A
after_event e o = record { notices = notices_of e ++ o.notices; questions = question_of e ++ o.questions; left = o.left; ending = o.ending }

-- the outcome of a program that goes on with the work that is left, or that ends at once with the fault, if there is one
abbrev pub unless_fault : {A : Type 0} → ℕ → Result ℕ Fault → (ℕ → Outcome A) → Outcome A
unless_fault left (Err f) rest = ended left (failed f)
unless_fault left (Ok more) rest = rest more

-- the outcome of a program in a world with this much work to spend; with `all_answered` an open question is a fault
abbrev pub outcome : {A : Type 0} → (all_answered : Bool) → World → ℕ → Program A → Outcome A
outcome all w left (returns x) = ended left (returned x)
outcome all w left (fails f) = ended left (failed f)
outcome all w left stops = ended left stopped
outcome all w left (does e k) = unless_fault left (left_after all w left e) (λ more. after_event e (outcome all w more (k (reply w e))))

-- the outcome of the expansion of a tree by the path of its first file, where each question must be answered
unfoldable pub expansion : World → List ℕ → Outcome (List ExpandedFile)
expansion w root = outcome true w MAX_WORK (tree_read root)

-- the open questions of a reading; if there are none, the fault of the reading, or no questions if it has no fault
abbrev pub questions_or_fault : {A : Type 0} → List (List ℕ) → Ending A → Result (List (List ℕ)) Fault
questions_or_fault [] (failed f) = Err f
questions_or_fault [] (returned x) = Ok []
questions_or_fault [] stopped = Ok []
questions_or_fault (q ∷ qs) e = Ok (q ∷ qs)

-- the questions among these that a world doesn't answer, in their order
abbrev pub without_answer : World → List (List ℕ) → List (List ℕ)
without_answer w questions = filter (λ q. is_none (w.answer q)) questions

-- the questions among these that aren't in `asked`, in their order
abbrev pub not_in : (asked questions : List (List ℕ)) → List (List ℕ)
not_in asked questions = filter (λ q. not (is_in_list q asked)) questions

-- the questions of a program with this outcome, each once, in the order first asked
abbrev pub questions_once : {A : Type 0} → Outcome A → List (List ℕ)
questions_once o = without_repeats (reverse o.questions)

-- the open questions of the reading of a tree, each once, in the order first asked; if there are none, the fault of the reading
unfoldable pub wanted : World → List ℕ → Result (List (List ℕ)) Fault
wanted w root = let o = outcome false w MAX_WORK (tree_read root) in questions_or_fault (without_answer w (questions_once o)) o.ending

-- these questions, where a reading has neither open questions nor a fault; else its open questions, or its fault
abbrev pub if_all_answered : Result (List (List ℕ)) Fault → List (List ℕ) → Result (List (List ℕ)) Fault
if_all_answered (Ok []) questions = Ok questions
if_all_answered (Ok (q ∷ qs)) questions = Ok (q ∷ qs)
if_all_answered (Err f) questions = Err f

-- the questions of `answered` that the reading of a tree doesn't ask, in their order; while it has open questions, these; else its
-- fault, if it has one
unfoldable pub unused : World → List ℕ → (answered : List (List ℕ)) → Result (List (List ℕ)) Fault
unused w root answered = if_all_answered (wanted w root) (not_in (questions_once (outcome false w MAX_WORK (tree_read root))) answered)

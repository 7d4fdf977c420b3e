-- Files of answers to macro questions: the meaning of their lines, and the first fault of a file.
use Rattle.std.specs.Prelude.{ℕ, ◌+◌, Bool, true, false, ◌&&◌, ◌||◌, ◌==◌, nat_lt, List, [], ◌∷◌, ◌++◌, length, take, drop, slice_index, position, Option, Some, None, Result, Ok, Err, bytes_eq, if◌then◌else◌}
use Rattle.std.specs.Str.{is_utf8}
use Rattle.std.specs.Option.{option_or}
use Rattle.kc_tree_model.specs.Keywords.{keyword_in_table}
use Rattle.kc_tree_model.specs.LogicalLines.{PhysicalLine, split_at_newlines, without_white_end}
use Rattle.kc_macros_model.specs.declared.fault.AnswersKind.{AnswersKind}
use Rattle.kc_macros_model.specs.declared.fault.AnswersKind.TheVariants.{Malformed, TwoAnswers, NotUtf8, LineTooLong, TooManyLines, TooLarge}
use Rattle.kc_macros_model.specs.declared.fault.AnswersFault.{AnswersFault}
use Rattle.kc_value.specs.declared.limits.TheConstants.{MAX_ANSWER_BYTES, MAX_ANSWER_LINES, MAX_ANSWER_LINE_BYTES}
use Rattle.kc_macros_model.specs.Programs.{Answer}
use Rattle.kc_macros_model.specs.Variables.{is_environment_name}

-- recorded answers to macro questions: the questions with their answers, in order of their first lines
abbrev pub RecordedAnswers : Type 0
RecordedAnswers = List (List ℕ × Answer)

-- the meaning of a line of an answer file: none, an answer to a question, a command that the next line answers, or malformed
pub data AnswerLine : Type 0 where
  comment : AnswerLine
  answer : (question : List ℕ) → Answer → AnswerLine
  command : (question : List ℕ) → AnswerLine
  malformed : AnswerLine

-- the meaning of the line after a command in an answer file: `>` alone, or `> ` and a text, is the command's answer
abbrev pub line_after_command : (question : List ℕ) → List ℕ → AnswerLine
line_after_command question line =
    if slice_index line 0 == 62 && (length line == 1) then answer question (Some [])
    else if slice_index line 0 == 62 && (slice_index line 1 == 32) then answer question (Some (drop 2 line))
    else malformed

-- the meaning of a line `!NAME` in an answer file: the environment variable isn't set
abbrev pub name_not_set : List ℕ → AnswerLine
name_not_set name = if is_environment_name name then answer name None else malformed

-- the meaning of a line `NAME=TEXT` in an answer file, given the index of its first `=`: the environment variable has the text
abbrev pub name_with_text : List ℕ → Option ℕ → AnswerLine
name_with_text line None = malformed
name_with_text line (Some n) = if is_environment_name (take n line) then answer (take n line) (Some (drop (n + 1) line)) else malformed

-- the meaning of a line that follows no command in an answer file: empty, `#` comment, `!NAME`, `$ COMMAND` or `NAME=TEXT`
abbrev pub line_alone : List ℕ → AnswerLine
line_alone line =
    if length line == 0 || (slice_index line 0 == 35) then comment
    else if slice_index line 0 == 33 then name_not_set (drop 1 line)
    else if slice_index line 0 == 36 then (if slice_index line 1 == 32 then command line else malformed)
    else name_with_text line (position (λ c. c == 61) line)

-- the meaning of a line of an answer file, without white at its end; `after` is the command on the line before it, if any
abbrev pub meaning_of_line : (after : Option (List ℕ)) → List ℕ → AnswerLine
meaning_of_line None line = line_alone line
meaning_of_line (Some question) line = line_after_command question line

-- whether two answers to a question are the same: the same text, or both that a name isn't set
abbrev pub is_same_answer : Answer → Answer → Bool
is_same_answer None None = true
is_same_answer None (Some t) = false
is_same_answer (Some s) None = false
is_same_answer (Some s) (Some t) = bytes_eq s t

-- the state after some lines of an answer file: their count, a command that waits for its answer, and the recorded answers
pub record LinesSoFar : Type 0 where
  pub count : ℕ
  pub waiting : Option (List ℕ)
  pub recorded : RecordedAnswers

-- a fault of an answer file at this line, counted from 1
abbrev pub fault_at : ℕ → AnswersKind → AnswersFault
fault_at line kind = record { line = line; kind = kind }

-- the state after one more line of an answer file, with the command that then waits for its answer and the recorded answers
abbrev pub one_line_more : LinesSoFar → Option (List ℕ) → RecordedAnswers → LinesSoFar
one_line_more lines waiting recorded = record { count = lines.count + 1; waiting = waiting; recorded = recorded }

-- the state after a line that answers a question, given the question's earlier answer, if any, from which it may not differ
abbrev pub with_answer : LinesSoFar → (question : List ℕ) → Answer → Option Answer → Result LinesSoFar AnswersFault
with_answer lines question a None = Ok (one_line_more lines None (lines.recorded ++ (question, a) ∷ []))
with_answer lines question a (Some b) = if is_same_answer b a then Ok (one_line_more lines None lines.recorded) else Err (fault_at (lines.count + 1) TwoAnswers)

-- the fault of a malformed line after this many lines of an answer file, or of the command before it that waits for its answer
abbrev pub malformed_line : ℕ → Option (List ℕ) → AnswersFault
malformed_line count None = fault_at (count + 1) Malformed
malformed_line count (Some question) = fault_at count Malformed

-- the state after one more line of an answer file with this meaning, or the line's fault
abbrev pub with_meaning : LinesSoFar → AnswerLine → Result LinesSoFar AnswersFault
with_meaning lines comment = Ok (one_line_more lines None lines.recorded)
with_meaning lines (answer question a) = with_answer lines question a (keyword_in_table lines.recorded question)
with_meaning lines (command question) = Ok (one_line_more lines (Some question) lines.recorded)
with_meaning lines malformed = Err (malformed_line lines.count lines.waiting)

-- the fault of a line, or of its front, in an answer file after this many lines: a line too many, or too many bytes in it
abbrev pub fault_of_size : ℕ → List ℕ → Option AnswersKind
fault_of_size count line = if nat_lt count MAX_ANSWER_LINES then (if nat_lt MAX_ANSWER_LINE_BYTES (length line) then Some LineTooLong else None) else Some TooManyLines

-- the fault of the bytes of a line in an answer file after this many lines: its size, or bytes that aren't UTF-8
abbrev pub fault_of_line : ℕ → List ℕ → Option AnswersKind
fault_of_line count line = option_or (fault_of_size count line) (if is_utf8 line then None else Some NotUtf8)

-- the state after one more line of an answer file, given without its newline, or the line's fault
abbrev pub with_line : LinesSoFar → List ℕ → Result LinesSoFar AnswersFault
with_line lines line = elim (fault_of_line lines.count line) [ Some kind ↦ Err (fault_at (lines.count + 1) kind) | None ↦ with_meaning lines (meaning_of_line lines.waiting (without_white_end line)) ]

-- how the bytes of an answer file end: the file is complete, or a fault, such as a failed read, cuts it off
pub data FileEnd : Type 0 where
  complete : FileEnd
  cut_by : AnswersKind → FileEnd

-- the recorded answers at the end of an answer file, or the fault of a command that still waits for its answer
abbrev pub unless_waiting : LinesSoFar → Option (List ℕ) → Result RecordedAnswers AnswersFault
unless_waiting lines None = Ok lines.recorded
unless_waiting lines (Some question) = Err (malformed_line lines.count (Some question))

-- the recorded answers at the end of an answer file, or the fault that cut it off, or that of a command without its answer
abbrev pub recorded_at_end : FileEnd → LinesSoFar → Result RecordedAnswers AnswersFault
recorded_at_end complete lines = unless_waiting lines lines.waiting
recorded_at_end (cut_by kind) lines = Err (fault_at (lines.count + 1) kind)

-- the fault of an answer file that is cut off within its last line: that of the line's size, else the fault that cut it off
abbrev pub cut_line : AnswersKind → LinesSoFar → List ℕ → AnswersFault
cut_line kind lines line = elim (fault_of_size lines.count line) [ Some earlier ↦ fault_at (lines.count + 1) earlier | None ↦ fault_at (lines.count + 1) kind ]

-- the next step applied to the value of a result, unless the result is a fault, which stays
abbrev pub and_then : {A B : Type 0} → Result A AnswersFault → (A → Result B AnswersFault) → Result B AnswersFault
and_then (Ok x) f = f x
and_then (Err e) f = Err e

-- the recorded answers after the remaining lines of an answer file, or the first fault
abbrev pub recorded_from : FileEnd → LinesSoFar → List PhysicalLine → Result RecordedAnswers AnswersFault
recorded_from end lines [] = recorded_at_end end lines
recorded_from complete lines (l ∷ ls) = and_then (with_line lines l.text) (λ more. recorded_from complete more ls)
recorded_from (cut_by kind) lines (l ∷ ls) = elim l.ended [ true ↦ and_then (with_line lines l.text) (λ more. recorded_from (cut_by kind) more ls) | false ↦ Err (cut_line kind lines l.text) ]

-- the state before the first line of an answer file, with the answers recorded from earlier files
abbrev pub first_line : RecordedAnswers → LinesSoFar
first_line recorded = record { count = 0; waiting = None; recorded = recorded }

-- the answers recorded from earlier files and from an answer file of these bytes, or that file's first fault; a file of more than
-- `MAX_ANSWER_BYTES` bytes is cut off by the fault `TooLarge`
unfoldable pub answers_read : FileEnd → List ℕ → RecordedAnswers → Result RecordedAnswers AnswersFault
answers_read end bytes recorded =
    if nat_lt MAX_ANSWER_BYTES (length bytes) then recorded_from (cut_by TooLarge) (first_line recorded) (split_at_newlines (take MAX_ANSWER_BYTES bytes))
    else recorded_from end (first_line recorded) (split_at_newlines bytes)

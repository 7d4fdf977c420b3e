-- A file of answers that was read as far as it goes.
use Rattle.std.proofs.Common.{◌≢◌, ◌⊎◌, subst}
use Rattle.std.specs.Prelude.{IfErr, nat_lt}
use Rattle.std.specs.Io.KnownBytes.{Consumes}
use Rattle.kc_answers.proofs.Common.{◌≡◌, inl, inr, ℕ, ◌+◌, ◌<◌, ◌≤◌, Bool, true, false, cond, List, [], ◌∷◌, length, take, Option, Some, None, Result, Ok, Err, sym, ap, ◌∙◌, is_utf8, take_all, keyword_in_table, PhysicalLine, split_at_newlines, without_white_end, AnswersFault, MAX_ANSWER_BYTES}
use Rattle.kc_answers.proofs.Common.{MAX_ANSWER_LINES, Answer, RecordedAnswers, meaning_of_line, LinesSoFar, fault_at, with_meaning, fault_of_line, with_line, FileEnd, complete, cut_by, and_then, recorded_from, first_line, end_of_file}
use Rattle.std.proofs.lemmas.Bool.{lt-ltb, le-ltb}
use Rattle.kc_macros_model.specs.declared.fault.AnswersKind.{AnswersKind}
use Rattle.kc_macros_model.specs.declared.fault.AnswersKind.TheVariants.{Malformed, TwoAnswers, NotUtf8, LineTooLong, TooManyLines, TooLarge, Read, OutOfMemory}
use Rattle.std.specs.Option.{option_or}
use Rattle.kc_value.specs.declared.limits.TheConstants.{MAX_ANSWER_LINE_BYTES}
use Rattle.kc_macros_model.specs.AnswerFiles.{AnswerLine, comment, answer, command, malformed, is_same_answer, one_line_more, with_answer, malformed_line, fault_of_size, unless_waiting, cut_line, answers_read}
use Rattle.kc_answers.specs.checker.AnswerFaults.{no_memory}
use Rattle.kc_answers.specs.ReadAnswers.{ReadsToEnd, AreRecorded, AreAnswersRefused}

-- a file that a fault cuts isn't recorded
cut_is_refused : (kind : AnswersKind) (lines : LinesSoFar) (ls : List PhysicalLine) (r : RecordedAnswers) → recorded_from (cut_by kind) lines ls ≡ Ok r → ⊥
cut_is_refused kind lines [] r e = let z : ⊥ = cc in z
cut_is_refused kind lines (l ∷ ls) r e = by_test (λ more h. cut_is_refused kind more ls r h) l.ended (with_line lines l.text) e
  where
    by_test : ((more : LinesSoFar) → recorded_from (cut_by kind) more ls ≡ Ok r → ⊥) → (b : Bool) (x : Result LinesSoFar AnswersFault)
        → (elim b as (λ z. Result RecordedAnswers AnswersFault) [
          | true ↦ and_then x (λ more. recorded_from (cut_by kind) more ls)
          | false ↦ Err (cut_line kind lines l.text)
        ]) ≡ Ok r → ⊥
    by_test ih true (Ok more) e = ih more e
    by_test ih true (Err f) e = let z : ⊥ = cc in z
    by_test ih false x e = let z : ⊥ = cc in z

-- a result isn't the fault that memory ran out
abbrev HasMemory : {A : Type 0} → Result A AnswersFault → Type 0
HasMemory r = IfErr r (λ f. f.kind ≢ OutOfMemory)

-- no line of a file of answers has the fault that memory ran out
answer_has_memory : (lines : LinesSoFar) (question : List ℕ) (a : Answer) (earlier : Option Answer) → HasMemory (with_answer lines question a earlier)
answer_has_memory lines question a None = tt
answer_has_memory lines question a (Some b) = by_test (is_same_answer b a)
  where
    by_test : (t : Bool) → HasMemory (cond t (Ok (one_line_more lines None lines.recorded)) (Err (fault_at (lines.count + 1) TwoAnswers)))
    by_test true = tt
    by_test false = λ e. cc

meaning_has_memory : (lines : LinesSoFar) (meaning : AnswerLine) → HasMemory (with_meaning lines meaning)
meaning_has_memory lines comment = tt
meaning_has_memory lines (answer question a) = answer_has_memory lines question a (keyword_in_table lines.recorded question)
meaning_has_memory lines (command question) = tt
meaning_has_memory lines malformed = by_command lines.waiting
  where
    by_command : (waiting : Option (List ℕ)) → (malformed_line lines.count waiting).kind ≢ OutOfMemory
    by_command None = λ e. cc
    by_command (Some question) = λ e. cc

size_has_memory : (count : ℕ) (line : List ℕ) → fault_of_size count line ≢ Some OutOfMemory
size_has_memory count line = by_tests (nat_lt count MAX_ANSWER_LINES) (nat_lt MAX_ANSWER_LINE_BYTES (length line))
  where
    by_tests : (few long : Bool) → cond few (cond long (Some LineTooLong) None) (Some TooManyLines) ≢ Some OutOfMemory
    by_tests true true = λ e. cc
    by_tests true false = λ e. cc
    by_tests false long = λ e. cc

bytes_have_memory : (count : ℕ) (line : List ℕ) → fault_of_line count line ≢ Some OutOfMemory
bytes_have_memory count line = by_size (fault_of_size count line) (size_has_memory count line) (is_utf8 line)
  where
    by_size : (size : Option AnswersKind) → size ≢ Some OutOfMemory → (text : Bool)
        → option_or size (cond text None (Some NotUtf8)) ≢ Some OutOfMemory
    by_size (Some kind) other text = other
    by_size None other true = λ e. cc
    by_size None other false = λ e. cc

line_has_memory : (lines : LinesSoFar) (line : List ℕ) → HasMemory (with_line lines line)
line_has_memory lines line = by_fault (fault_of_line lines.count line) (bytes_have_memory lines.count line)
  where
    by_fault : (fault : Option AnswersKind) → fault ≢ Some OutOfMemory → HasMemory (elim fault as (λ z. Result LinesSoFar AnswersFault) [
      | Some kind ↦ Err (fault_at (lines.count + 1) kind)
      | None ↦ with_meaning lines (meaning_of_line lines.waiting (without_white_end line))
    ])
    by_fault (Some kind) other = λ e. other (ap (λ k. Some k) e)
    by_fault None other = meaning_has_memory lines (meaning_of_line lines.waiting (without_white_end line))

next_has_memory : {A B : Type 0} (r : Result A AnswersFault) (f : A → Result B AnswersFault) → HasMemory r
    → ((x : A) → HasMemory (f x)) → HasMemory (and_then r f)
next_has_memory (Ok x) f h k = k x
next_has_memory (Err e) f h k = h

-- neither has a file, unless that fault cut it
whole_has_memory : (lines : LinesSoFar) (ls : List PhysicalLine) → HasMemory (recorded_from complete lines ls)
whole_has_memory lines [] = by_command lines.waiting
  where
    by_command : (waiting : Option (List ℕ)) → HasMemory (unless_waiting lines waiting)
    by_command None = tt
    by_command (Some question) = λ e. cc
whole_has_memory lines (l ∷ ls) = next_has_memory (with_line lines l.text) (λ more. recorded_from complete more ls) (line_has_memory lines l.text)
    (λ more. whole_has_memory more ls)

cut_has_memory : (kind : AnswersKind) (lines : LinesSoFar) (ls : List PhysicalLine) → kind ≢ OutOfMemory → HasMemory (recorded_from (cut_by kind) lines ls)
cut_has_memory kind lines [] other = other
cut_has_memory kind lines (l ∷ ls) other = by_test (λ more. cut_has_memory kind more ls other) l.ended
  where
    by_size : (size : Option AnswersKind) → size ≢ Some OutOfMemory → (elim size as (λ z. AnswersFault) [
      | Some earlier ↦ fault_at (lines.count + 1) earlier
      | None ↦ fault_at (lines.count + 1) kind
    ]).kind ≢ OutOfMemory
    by_size (Some earlier) apart = λ e. apart (ap (λ k. Some k) e)
    by_size None apart = other

    by_test : ((more : LinesSoFar) → HasMemory (recorded_from (cut_by kind) more ls)) → (b : Bool)
        → HasMemory (elim b as (λ z. Result RecordedAnswers AnswersFault) [
          | true ↦ and_then (with_line lines l.text) (λ more. recorded_from (cut_by kind) more ls)
          | false ↦ Err (cut_line kind lines l.text)
        ])
    by_test ih true = next_has_memory (with_line lines l.text) (λ more. recorded_from (cut_by kind) more ls) (line_has_memory lines l.text) ih
    by_test ih false = by_size (fault_of_size lines.count l.text) (size_has_memory lines.count l.text)

-- a fault of a file isn't that memory ran out
fault_has_memory : (r : Result RecordedAnswers AnswersFault) (f : AnswersFault) → HasMemory r → r ≡ Err f → f.kind ≢ OutOfMemory
fault_has_memory r f h e = subst HasMemory e h

-- a file within the size is read as it is
small_file : (end : FileEnd) (bytes : List ℕ) (earlier : RecordedAnswers) → length bytes ≤ MAX_ANSWER_BYTES
    → answers_read end bytes earlier ≡ recorded_from end (first_line earlier) (split_at_newlines (take MAX_ANSWER_BYTES bytes))
unfolding answers_read
small_file end bytes earlier h =
    ap (λ b. cond b (recorded_from (cut_by TooLarge) (first_line earlier) (split_at_newlines (take MAX_ANSWER_BYTES bytes)))
    (recorded_from end (first_line earlier) (split_at_newlines bytes))) (le-ltb MAX_ANSWER_BYTES (length bytes) h)
    ∙ ap (λ s. recorded_from end (first_line earlier) (split_at_newlines s)) (sym (take_all MAX_ANSWER_BYTES bytes h))

-- a larger one is cut
large_file : (end : FileEnd) (bytes : List ℕ) (earlier : RecordedAnswers) → MAX_ANSWER_BYTES < length bytes
    → answers_read end bytes earlier ≡ recorded_from (cut_by TooLarge) (first_line earlier) (split_at_newlines (take MAX_ANSWER_BYTES bytes))
unfolding answers_read
large_file end bytes earlier h =
    ap (λ b. cond b (recorded_from (cut_by TooLarge) (first_line earlier) (split_at_newlines (take MAX_ANSWER_BYTES bytes)))
    (recorded_from end (first_line earlier) (split_at_newlines bytes))) (lt-ltb MAX_ANSWER_BYTES (length bytes) h)

module _ (before after : Option (List ℕ)) (failed failed_after : ℕ) (bytes : List ℕ) (earlier : RecordedAnswers) (consumed : Consumes before after bytes) where
  abbrev Reads : Option AnswersKind → Result RecordedAnswers AnswersFault → Type 0
  Reads cut r = recorded_from (end_of_file cut) (first_line earlier) (split_at_newlines (take MAX_ANSWER_BYTES bytes)) ≡ r

  pub file_recorded : (cut : Option AnswersKind) → ReadsToEnd after failed failed_after bytes cut → (recorded : RecordedAnswers) → Reads cut (Ok recorded)
      → AreRecorded before after earlier recorded
  file_recorded None ends recorded e = record { bytes = bytes; consumed = consumed; ended = ends.0; read = small_file complete bytes earlier ends.1 ∙ e }
  file_recorded (Some kind) ends recorded e = absurd (cut_is_refused kind (first_line earlier) (split_at_newlines (take MAX_ANSWER_BYTES bytes)) recorded e)

  pub file_unfailed : (cut : Option AnswersKind) → ReadsToEnd after failed failed_after bytes cut → (recorded : RecordedAnswers) → Reads cut (Ok recorded)
      → failed_after ≡ failed
  file_unfailed None ends recorded e = ends.2
  file_unfailed (Some kind) ends recorded e = absurd (cut_is_refused kind (first_line earlier) (split_at_newlines (take MAX_ANSWER_BYTES bytes)) recorded e)

  pub file_refused : (cut : Option AnswersKind) → ReadsToEnd after failed failed_after bytes cut → (f : AnswersFault) → Reads cut (Err f)
      → AreAnswersRefused before after failed failed_after earlier f
  file_refused None ends f e = record { bytes = bytes; consumed = consumed; cut = None; ended = ends; read = small_file complete bytes earlier ends.1 ∙ e }
  file_refused (Some Read) ends f e = record {
    bytes = bytes;
    consumed = consumed;
    cut = Some Read;
    ended = ends;
    read = small_file (cut_by Read) bytes earlier ends.0 ∙ e;
  }
  file_refused (Some TooLarge) ends f e = record {
    bytes = bytes;
    consumed = consumed;
    cut = Some TooLarge;
    ended = ends;
    read = large_file (cut_by TooLarge) bytes earlier ends.0 ∙ e;
  }
  file_refused (Some Malformed) ends f e = absurd ends
  file_refused (Some TwoAnswers) ends f e = absurd ends
  file_refused (Some NotUtf8) ends f e = absurd ends
  file_refused (Some LineTooLong) ends f e = absurd ends
  file_refused (Some TooManyLines) ends f e = absurd ends
  file_refused (Some OutOfMemory) ends f e = absurd ends

  -- a fault of a file that was read as far as it goes has the line 0 if its kind is that memory ran out
  pub memory_has_no_line : (cut : Option AnswersKind) → ReadsToEnd after failed failed_after bytes cut → (f : AnswersFault)
      → (f ≡ no_memory) ⊎ Reads cut (Err f) → f.kind ≡ OutOfMemory → f.line ≡ 0
  memory_has_no_line cut ends f (inl m) kind = ap (λ (x : AnswersFault). x.line) m
  memory_has_no_line cut ends f (inr e) kind = absurd (fault_has_memory _ f (by_end cut ends) e kind)
    where
      lines : List PhysicalLine
      lines = split_at_newlines (take MAX_ANSWER_BYTES bytes)

      by_end : (cut : Option AnswersKind) → ReadsToEnd after failed failed_after bytes cut
          → HasMemory (recorded_from (end_of_file cut) (first_line earlier) lines)
      by_end None ends = whole_has_memory (first_line earlier) lines
      by_end (Some Read) ends = cut_has_memory Read (first_line earlier) lines (λ e. cc)
      by_end (Some TooLarge) ends = cut_has_memory TooLarge (first_line earlier) lines (λ e. cc)
      by_end (Some Malformed) ends = absurd ends
      by_end (Some TwoAnswers) ends = absurd ends
      by_end (Some NotUtf8) ends = absurd ends
      by_end (Some LineTooLong) ends = absurd ends
      by_end (Some TooManyLines) ends = absurd ends
      by_end (Some OutOfMemory) ends = absurd ends

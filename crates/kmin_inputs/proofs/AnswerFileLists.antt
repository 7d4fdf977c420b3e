-- Answer files, one after another: what they record, and where a run ends among them.
use Rattle.std.proofs.Common.{append-nil}
use Rattle.std.specs.Io.KnownBytes.{Consumes}
use Rattle.kmin_inputs.proofs.Common.{◌≡◌, ℕ, ◌⊎◌, inl, inr, List, [], ◌∷◌, ◌++◌, Option, Some, None, Err, refl, sym, subst, AnswersKind, Malformed, TwoAnswers, NotUtf8, LineTooLong, TooManyLines, TooLarge, Read, OutOfMemory, AnswersFault, RecordedAnswers, complete, cut_by}
use Rattle.kmin_inputs.proofs.Common.{AreAnswersRefused, ReadsToEnd, end_of_file, FileContent, OpensAs, SpelledBytes, TakesLines, ErrorLine, FilesRecord, answers_status, lines_append, rest_of, whole_content}
use Rattle.kc_value.specs.FileContents.{AreKnownBytes}
use Rattle.kc_macros_model.specs.AnswerFiles.{answers_read}
use Rattle.kc_answers.specs.ReadAnswers.{AreRecorded}
use Rattle.kmin_report.specs.Reports.{answers_line}
use Rattle.kmin_inputs.specs.JobAnswers.{none, file}
use Rattle.kmin_inputs.specs.AnswerStops.{StopsAtAnswers, StopsAmongAnswers, refused}
use Rattle.kmin_inputs.specs.AnswerStops as stops
use Rattle.kmin_inputs.specs.between.AnswerSteps.{StopsReading, StopsAtAnswersPath, ReportsAnswersFault, answers_lines}
use Rattle.kmin_inputs.specs.between.AnswerSteps as steps

-- answer files that add to earlier answers, and then more of them, do so as one list of files
pub record_append : (content_of : List ℕ → FileContent) (xs ys : List (List ℕ)) (a b c : RecordedAnswers) → FilesRecord content_of xs a b
    → FilesRecord content_of ys b c → FilesRecord content_of (xs ++ ys) a c
record_append content_of xs ys a b c (none recorded) k = k
record_append content_of xs ys a b c (file path bytes paths earlier middle recorded m r h) k =
    file path bytes (paths ++ ys) earlier middle c m r (record_append content_of paths ys middle b c h k)

-- an answer file that was opened, read and accepted adds to earlier answers as a list of one file
pub recorded_from : (content_of : List ℕ → FileContent) (path : List ℕ) (before after : Option (List ℕ)) (earlier recorded : RecordedAnswers)
    → OpensAs (content_of path) (Some before) → AreRecorded before after earlier recorded → FilesRecord content_of (path ∷ []) earlier recorded
recorded_from content_of path before after earlier recorded o r =
    file path r.bytes [] earlier recorded recorded (whole_content (content_of path) before after r.bytes o r.consumed r.ended) r.read (none recorded)

module _ (content : FileContent) (path : List ℕ) (before after : Option (List ℕ)) (opens : OpensAs content (Some before)) (earlier : RecordedAnswers) where
  -- an answer file that is refused ends a job, by what ended the reading
  refused_by : (failed failed_after : ℕ) (bytes : List ℕ) (fault : AnswersFault) (cut : Option AnswersKind) → Consumes before after bytes
      → ReadsToEnd after failed failed_after bytes cut → answers_read (end_of_file cut) bytes earlier ≡ Err fault
      → StopsAtAnswers content earlier path (answers_status fault.kind) (answers_line path fault.line fault.kind)
  refused_by failed failed_after bytes fault None h e r =
      refused bytes [] complete fault (subst (λ text. AreKnownBytes content text) (sym (append-nil bytes))
      (whole_content content before after bytes opens h e.0)) refl r refl refl
  refused_by failed failed_after bytes fault (Some Read) h e r =
      let w = rest_of content before after bytes opens h in refused bytes w.0 (cut_by Read) fault w.1 tt r refl refl
  refused_by failed failed_after bytes fault (Some TooLarge) h e r =
      let w = rest_of content before after bytes opens h in refused bytes w.0 (cut_by TooLarge) fault w.1 e.0 r refl refl
  refused_by failed failed_after bytes fault (Some Malformed) h e r = absurd e
  refused_by failed failed_after bytes fault (Some TwoAnswers) h e r = absurd e
  refused_by failed failed_after bytes fault (Some NotUtf8) h e r = absurd e
  refused_by failed failed_after bytes fault (Some LineTooLong) h e r = absurd e
  refused_by failed failed_after bytes fault (Some TooManyLines) h e r = absurd e
  refused_by failed failed_after bytes fault (Some OutOfMemory) h e r = absurd e

  refused_file : (failed failed_after : ℕ) (fault : AnswersFault) → AreAnswersRefused before after failed failed_after earlier fault
      → answers_lines path fault.line fault.kind ≡ answers_line path fault.line fault.kind ∷ []
      → StopsAtAnswersPath content earlier path (answers_status fault.kind) (answers_lines path fault.line fault.kind)
  refused_file failed failed_after fault r l =
      steps.at_file (answers_line path fault.line fault.kind) (refused_by failed failed_after r.bytes fault r.cut r.consumed r.ended r.read) l

  by_kind : (failed failed_after line : ℕ) (kind : AnswersKind) → ReportsAnswersFault before after failed failed_after earlier
      (record { line = line; kind = kind })
      → StopsAtAnswersPath content earlier path (answers_status kind) (answers_lines path line kind)
  by_kind f g line OutOfMemory h = steps.for_memory refl refl
  by_kind f g line Read (steps.for_memory e) = cc
  by_kind f g line Read (steps.refused r) = refused_file f g (record { line = line; kind = Read }) r refl
  by_kind f g line Malformed (steps.for_memory e) = cc
  by_kind f g line Malformed (steps.refused r) = refused_file f g (record { line = line; kind = Malformed }) r refl
  by_kind f g line TwoAnswers (steps.for_memory e) = cc
  by_kind f g line TwoAnswers (steps.refused r) = refused_file f g (record { line = line; kind = TwoAnswers }) r refl
  by_kind f g line NotUtf8 (steps.for_memory e) = cc
  by_kind f g line NotUtf8 (steps.refused r) = refused_file f g (record { line = line; kind = NotUtf8 }) r refl
  by_kind f g line LineTooLong (steps.for_memory e) = cc
  by_kind f g line LineTooLong (steps.refused r) = refused_file f g (record { line = line; kind = LineTooLong }) r refl
  by_kind f g line TooManyLines (steps.for_memory e) = cc
  by_kind f g line TooManyLines (steps.refused r) = refused_file f g (record { line = line; kind = TooManyLines }) r refl
  by_kind f g line TooLarge (steps.for_memory e) = cc
  by_kind f g line TooLarge (steps.refused r) = refused_file f g (record { line = line; kind = TooLarge }) r refl

  -- an answer file that was opened, but not accepted, ends a run with the lines that were reported
  pub stopped_reading : (read_failed read_failed_after status : ℕ) (taken taken_after : SpelledBytes) (failed failed_after : ℕ)
      → StopsReading path before after read_failed read_failed_after earlier status taken failed taken_after failed_after
      → (lines : List ErrorLine) × StopsAtAnswersPath content earlier path status lines × TakesLines taken failed lines taken_after failed_after
  stopped_reading f g status taken taken_after failed failed_after s = (
    answers_lines path s.fault.line s.fault.kind,
    subst (λ n. StopsAtAnswersPath content earlier path n (answers_lines path s.fault.line s.fault.kind)) (sym s.status_is)
        (by_kind f g s.fault.line s.fault.kind s.reports),
    s.reported,
  )

-- a job that ends at an answer file, after others that were accepted, ends among its answer files
path_stops : (content_of : List ℕ → FileContent) (front back all : List (List ℕ))
    (path : List ℕ) (earlier : RecordedAnswers) (status : ℕ) (lines : List ErrorLine)
    → all ≡ front ++ (path ∷ back) → FilesRecord content_of front [] earlier → StopsAtAnswersPath (content_of path) earlier path status lines
    → StopsAmongAnswers content_of all status lines
path_stops content_of front back all path earlier status lines e r (steps.at_file line s l) = stops.at_file front back path line earlier e r s l
path_stops content_of front back all path earlier status lines e r (steps.for_memory s l) = stops.for_memory s l

pub reports_fault : (left left_after : Option (List ℕ)) (failed failed_after : ℕ) (earlier : RecordedAnswers) (fault : AnswersFault)
    → (fault.kind ≡ OutOfMemory) ⊎ AreAnswersRefused left left_after failed failed_after earlier fault
    → ReportsAnswersFault left left_after failed failed_after earlier fault
reports_fault left left_after failed failed_after earlier fault (inl e) = steps.for_memory e
reports_fault left left_after failed failed_after earlier fault (inr r) = steps.refused r

-- a job that ends at an answer file, after others that were accepted without a report, ends among its answer files
pub stopped_later : (content_of others : List ℕ → FileContent) → others ≡ content_of
    → (front back all : List (List ℕ)) (path : List ℕ) (earlier : RecordedAnswers)
    (status : ℕ) (taken middle taken_after : SpelledBytes) (failed failed_middle failed_after : ℕ)
    → all ≡ front ++ (path ∷ back) → FilesRecord content_of front [] earlier → TakesLines taken failed [] middle failed_middle
    → (lines : List ErrorLine) × StopsAtAnswersPath (others path) earlier path status lines × TakesLines middle failed_middle lines taken_after failed_after
    → (lines : List ErrorLine) × StopsAmongAnswers content_of all status lines × TakesLines taken failed lines taken_after failed_after
stopped_later content_of others same front back all path earlier status taken middle taken_after failed failed_middle failed_after e r before h = (
  h.0,
  path_stops content_of front back all path earlier status h.0 e r
      (subst (λ (c : List ℕ → FileContent). StopsAtAnswersPath (c path) earlier path status h.0) same h.1),
  lines_append taken middle failed failed_middle [] h.0 taken_after failed_after before h.2,
)

-- the exit status for a fault of an answer file that is neither a failed read nor lack of memory is 4
pub other_status : (kind : AnswersKind) → (kind ≡ Read → ⊥) → (kind ≡ OutOfMemory → ⊥) → 4 ≡ answers_status kind
other_status Read h k = absurd (h refl)
other_status OutOfMemory h k = absurd (k refl)
other_status Malformed h k = refl
other_status TwoAnswers h k = refl
other_status NotUtf8 h k = refl
other_status LineTooLong h k = refl
other_status TooManyLines h k = refl
other_status TooLarge h k = refl

pub other_lines : (path : List ℕ) (line : ℕ) (kind : AnswersKind) → (kind ≡ OutOfMemory → ⊥) → answers_lines path line kind ≡ answers_line path line kind ∷ []
other_lines path line OutOfMemory k = absurd (k refl)
other_lines path line Malformed k = refl
other_lines path line TwoAnswers k = refl
other_lines path line NotUtf8 k = refl
other_lines path line LineTooLong k = refl
other_lines path line TooManyLines k = refl
other_lines path line TooLarge k = refl
other_lines path line Read k = refl

-- Answer files that end a job.
use Rattle.std.specs.Prelude.{◌≡◌, ℕ, ◌<◌, List, [], ◌∷◌, ◌++◌, None, Err, length}
use Rattle.kc_value.specs.declared.limits.TheConstants.{MAX_ANSWER_BYTES}
use Rattle.kc_value.specs.FileContents.{FileContent, AreKnownBytes, OpensAs}
use Rattle.kc_macros_model.specs.declared.fault.AnswersKind.{AnswersKind}
use Rattle.kc_macros_model.specs.declared.fault.AnswersKind.TheVariants.{TooLarge, Read, OutOfMemory}
use Rattle.kc_macros_model.specs.declared.fault.AnswersFault.{AnswersFault}
use Rattle.kc_macros_model.specs.AnswerFiles.{RecordedAnswers, FileEnd, complete, cut_by, answers_read}
use Rattle.kmin_inputs.specs.JobAnswers.{FilesRecord}
use Rattle.kmin_report.specs.Reports.{ErrorLine, answers_line}

-- the exit status for a fault of an answer file: 5 for a failed read, 6 for lack of memory, and 4 for any other fault
abbrev pub answers_status : AnswersKind → ℕ
answers_status Read = 5
answers_status OutOfMemory = 6
answers_status _ = 4

-- a read of an answer file that took these bytes and left this rest can have this `FileEnd`: the end of the file, a failed read,
-- or more than `MAX_ANSWER_BYTES` bytes
abbrev pub IsReadUntil : FileEnd → (bytes rest : List ℕ) → Type 0
IsReadUntil complete bytes rest = rest ≡ []
IsReadUntil (cut_by Read) bytes rest = Unit {0}
IsReadUntil (cut_by TooLarge) bytes rest = MAX_ANSWER_BYTES < length bytes
IsReadUntil (cut_by kind) bytes rest = ⊥

-- An answer file, after the answers of earlier ones, ends a job with this status and this line of standard error: for its first
-- fault, or since it can't be opened.
pub data StopsAtAnswers (content : FileContent) (earlier : RecordedAnswers) (path : List ℕ) (status : ℕ) (line : ErrorLine) : Type 0 where
  refused : (bytes rest : List ℕ) (end : FileEnd) (fault : AnswersFault) → AreKnownBytes content (bytes ++ rest) → IsReadUntil end bytes rest
      → answers_read end bytes earlier ≡ Err fault → status ≡ answers_status fault.kind → line ≡ answers_line path fault.line fault.kind
      → StopsAtAnswers content earlier path status line
  unopened : OpensAs content None → status ≡ 5 → line ≡ answers_line path 0 Read → StopsAtAnswers content earlier path status line

-- A job ends among its answer files, with this status and these lines of standard error: at one of them, or since memory ran out.
pub data StopsAmongAnswers (content_of : List ℕ → FileContent) (paths : List (List ℕ)) (status : ℕ) (lines : List ErrorLine) : Type 0 where
  at_file : (front back : List (List ℕ)) (path : List ℕ) (line : ErrorLine) (recorded : RecordedAnswers) → paths ≡ front ++ path ∷ back
      → FilesRecord content_of front [] recorded → StopsAtAnswers (content_of path) recorded path status line
      → lines ≡ line ∷ [] → StopsAmongAnswers content_of paths status lines
  for_memory : status ≡ 6 → lines ≡ [] → StopsAmongAnswers content_of paths status lines

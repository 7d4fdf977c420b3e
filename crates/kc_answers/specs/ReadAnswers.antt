-- The result of reading a file of answers, given the bytes that the reader supplied.
use Rattle.std.specs.Prelude.{◌≡◌, ℕ, ◌-◌, ◌^◌, ◌<◌, ◌≤◌, List, Option, Some, None, Ok, Err, length}
use Rattle.std.specs.Io.KnownBytes.{Consumes, IsAtEnd}
use Rattle.kc_macros_model.specs.declared.fault.AnswersKind.{AnswersKind}
use Rattle.kc_macros_model.specs.declared.fault.AnswersKind.TheVariants.{TooLarge, Read}
use Rattle.kc_macros_model.specs.declared.fault.AnswersFault.{AnswersFault}
use Rattle.kc_value.specs.declared.limits.TheConstants.{MAX_ANSWER_BYTES}
use Rattle.kc_macros_model.specs.AnswerFiles.{RecordedAnswers, FileEnd, complete, cut_by, answers_read}

-- the reading of a file of answers ended in this way: at the end of the file (`None`), by a failed read, or past the limit of its
-- bytes
abbrev pub ReadsToEnd : (after : Option (List ℕ)) (failed failed_after : ℕ) (bytes : List ℕ) → Option AnswersKind → Type 0
ReadsToEnd after failed failed_after bytes None = IsAtEnd after × (length bytes ≤ MAX_ANSWER_BYTES) × (failed_after ≡ failed)
ReadsToEnd after failed failed_after bytes (Some Read) = (length bytes ≤ MAX_ANSWER_BYTES) × (failed < 2 ^ 64 - 1 → failed < failed_after)
ReadsToEnd after failed failed_after bytes (Some TooLarge) = (MAX_ANSWER_BYTES < length bytes) × (failed_after ≡ failed)
ReadsToEnd after failed failed_after bytes (Some kind) = ⊥

-- the end of a file of answers: complete, or cut by the fault that ended its bytes early
abbrev pub end_of_file : Option AnswersKind → FileEnd
end_of_file None = complete
end_of_file (Some kind) = cut_by kind

-- a file of answers was read to its end, and its answers together with those of earlier files are `recorded`
pub record AreRecorded (before after : Option (List ℕ)) (earlier recorded : RecordedAnswers) : Type 0 where
  pub bytes : List ℕ
  pub consumed : Consumes before after bytes
  pub ended : IsAtEnd after
  pub read : answers_read complete bytes earlier ≡ Ok recorded

-- a file of answers, read after earlier ones, is refused by its first fault; its bytes were read as far as the reader supplied
-- them, or past the limit of a file
pub record AreAnswersRefused (before after : Option (List ℕ)) (failed failed_after : ℕ) (earlier : RecordedAnswers) (fault : AnswersFault) : Type 0 where
  pub bytes : List ℕ
  pub consumed : Consumes before after bytes
  pub cut : Option AnswersKind
  pub ended : ReadsToEnd after failed failed_after bytes cut
  pub read : answers_read (end_of_file cut) bytes earlier ≡ Err fault

-- The first lines of a file of answers for the code, as `kc_macros_model` defines them.
use Rattle.std.specs.Prelude.{ℕ, false, List, [], ◌∷◌, Option, option_map}
use Rattle.std.specs.Borrow.{Bor}
use Rattle.kc_tree_model.specs.LogicalLines.{PhysicalLine}
use Rattle.kc_macros_model.specs.AnswerFiles.{RecordedAnswers, LinesSoFar}

-- the bytes of a slice, if there is one
abbrev pub bytes_of : Option (Bor (List ℕ)) → Option (List ℕ)
bytes_of s = option_map (λ (t : Bor (List ℕ)). t.now) s

-- the state after the first lines of a file of answers: their count, the command that waits for its answer, and the recorded
-- answers
abbrev pub lines_view : (count : ℕ) (waiting : Option (List ℕ)) → RecordedAnswers → LinesSoFar
lines_view count waiting recorded = record { count = count; waiting = waiting; recorded = recorded }

-- the bytes after the last newline of a file as a list of lines: one line, or none if there are no bytes
abbrev pub last_line : List ℕ → List PhysicalLine
last_line [] = []
last_line (b ∷ bytes) = record { text = b ∷ bytes; ended = false } ∷ []

-- Recording a line, and the lines of bytes.
use Rattle.std.proofs.Common.{◌≡◌, ℕ, zero, suc, ◌+◌, ◌-◌, ◌<◌, Bool, true, false, ◌==◌, cond, List, [], ◌∷◌, length, take, drop, Some, None, Result, Ok, Err, refl, sym, ap, ◌∙◌, arith}
use Rattle.std.specs.Prelude.{slice_index}
use Rattle.std.specs.Str.{is_utf8, IsUtf8}
use Rattle.std.proofs.lemmas.Grind.{common_steps}
use Rattle.std.proofs.lemmas.Str.{is_utf8-from_IsUtf8, IsUtf8-from_is_utf8}
use Rattle.bstr.specs.Find.{IsFirstByte, is_byte}
use Rattle.kc_tree_model.specs.LogicalLines.{PhysicalLine, with_first_byte, split_at_newlines, without_white_end}
use Rattle.kc_macros_model.specs.declared.fault.AnswersFault.{AnswersFault}
use Rattle.kc_macros_model.specs.AnswerFiles.{RecordedAnswers, LinesSoFar, fault_at, fault_of_line, meaning_of_line, with_meaning, with_line, FileEnd, complete, cut_by, and_then, recorded_from}
use Rattle.kc_answers.specs.checker.LinesView.{last_line}

-- a line of a file of answers that has no fault of size or encoding is recorded by its meaning
pub line_recorded : (lines : LinesSoFar) (line : List ℕ) → fault_of_line lines.count line ≡ None → with_line lines line
    ≡ with_meaning lines (meaning_of_line lines.waiting (without_white_end line))
line_recorded lines line e =
    ap (λ f. elim f as (λ z. Result LinesSoFar AnswersFault) [
      | Some kind ↦ Err (fault_at (lines.count + 1) kind)
      | None ↦ with_meaning lines (meaning_of_line lines.waiting (without_white_end line))
    ]) e

pub utf8_holds : (bytes : List ℕ) → IsUtf8 bytes → is_utf8 bytes ≡ true
utf8_holds bytes h = is_utf8-from_IsUtf8 bytes h

not_so : (b : Bool) → (b ≡ true → ⊥) → b ≡ false
not_so true h = absurd (h refl)
not_so false h = refl

pub utf8_fails : (bytes : List ℕ) → (IsUtf8 bytes → ⊥) → is_utf8 bytes ≡ false
utf8_fails bytes h = not_so (is_utf8 bytes) (λ e. h (IsUtf8-from_is_utf8 bytes e))

-- bytes that begin with a line that a newline ends at this place
split_line : (rest : List ℕ) (at : ℕ) → at < length rest → (slice_index rest at == 10) ≡ true → ((k : ℕ) → k < at → (slice_index rest k == 10) ≡ true → ⊥)
    → split_at_newlines rest ≡ record { text = take at rest; ended = true } ∷ split_at_newlines (drop (at + 1) rest)
split_line [] at h e none = absurd (omega arith)
split_line (b ∷ rest) zero h e none = ap (λ t. cond t (record { text = []; ended = true } ∷ split_at_newlines rest)
    (with_first_byte b (split_at_newlines rest))) e
split_line (b ∷ rest) (suc at) h e none =
    let next = split_line rest at (omega arith) e (λ k less is. none (suc k) (omega arith) is) in
    let n : suc at + 1 ≡ suc (at + 1) = omega arith in
    let other = not_so (b == 10) (none 0 (omega arith)) in
    ap (λ t. cond t (record { text = []; ended = true } ∷ split_at_newlines rest) (with_first_byte b (split_at_newlines rest))) other
    ∙ ap (λ ls. with_first_byte b ls) next
    ∙ ap (λ m. let l : PhysicalLine = record { text = b ∷ take at rest; ended = true } in l ∷ split_at_newlines (drop m (b ∷ rest))) (sym n)

pub first_line_split : (rest : List ℕ) (at : ℕ) → IsFirstByte (is_byte 10) rest (Some at) → split_at_newlines rest
    ≡ record { text = take at rest; ended = true } ∷ split_at_newlines (drop (at + 1) rest)
first_line_split rest at first = split_line rest at first.0.high first.1 (λ k less is. first.0.before k (omega arith) less is)

-- bytes without a newline are one line without a newline at its end, or no line if there are none
pub last_line_split : (rest : List ℕ) → IsFirstByte (is_byte 10) rest None → split_at_newlines rest ≡ last_line rest
last_line_split [] none = refl
last_line_split (b ∷ rest) none =
    ap (λ t. cond t (record { text = []; ended = true } ∷ split_at_newlines rest) (with_first_byte b (split_at_newlines rest)))
    (not_so (b == 10) (none 0 (omega arith) (omega arith)))
    ∙ ap (λ ls. with_first_byte b ls) (last_line_split rest (λ k low high is. none (suc k) (omega arith) (omega arith) is))
    ∙ one_line rest
  where
    one_line : (rest : List ℕ) → with_first_byte b (last_line rest) ≡ last_line (b ∷ rest)
    one_line [] = refl
    one_line (c ∷ rest) = refl

-- a file whose first line ends with a newline is recorded as this line and then the lines after it
pub after_line : (end : FileEnd) (lines : LinesSoFar) (text : List ℕ) (ls : List PhysicalLine) → recorded_from end lines
    (record { text = text; ended = true } ∷ ls) ≡ and_then (with_line lines text) (λ more. recorded_from end more ls)
after_line complete lines text ls = refl
after_line (cut_by kind) lines text ls = refl

-- a list that begins with a second one begins with each list that the second one begins with
pub begins_with : {A : Type 0} (xs ys zs : List A) → take (length ys) zs ≡ ys → take (length xs) ys ≡ xs → take (length xs) zs ≡ xs
begins_with [] ys zs h k = refl
begins_with (x ∷ xs) [] zs h k = absurd (let z : ⊥ = cc in z)
begins_with (x ∷ xs) (y ∷ ys) [] h k = absurd (let z : ⊥ = cc in z)
begins_with (x ∷ xs) (y ∷ ys) (z ∷ zs) h k =
    let tails : take (length ys) zs ≡ ys = cc in
    let fronts : take (length xs) ys ≡ xs = cc in
    let first : z ≡ x = cc in
    let rest = begins_with xs ys zs tails fronts in
    ap (λ v. v ∷ take (length xs) zs) first ∙ ap (λ vs. x ∷ vs) rest

-- the rest of a slice
rest_is : (rest : List ℕ) (n : ℕ) → take (length rest - n) (drop n rest) ≡ drop n rest
rest_is rest n = grind (arith, common_steps)

module _ (end : FileEnd) (lines : LinesSoFar) (rest : List ℕ) (at : ℕ) (first : IsFirstByte (is_byte 10) rest (Some at)) where
  line_first : recorded_from end lines (split_at_newlines rest) ≡ and_then (with_line lines (take at rest))
      (λ more. recorded_from end more (split_at_newlines (drop (at + 1) rest)))
  line_first = ap (recorded_from end lines) (first_line_split rest at first) ∙ after_line end lines (take at rest) (split_at_newlines (drop (at + 1) rest))

  -- after a line of a file of answers was recorded, the result of the file is that of the lines after it
  pub one_recorded : (result : Result RecordedAnswers AnswersFault) (next : LinesSoFar) → result ≡ recorded_from end lines (split_at_newlines rest)
      → with_line lines (take at rest) ≡ Ok next
      → result ≡ recorded_from end next (split_at_newlines (take (length rest - (at + 1)) (drop (at + 1) rest)))
  one_recorded result next e h =
      e ∙ line_first ∙ ap (λ r. and_then r (λ more. recorded_from end more (split_at_newlines (drop (at + 1) rest)))) h
      ∙ ap (λ bytes. recorded_from end next (split_at_newlines bytes)) (sym (rest_is rest (at + 1)))

  -- if a line of a file of answers is refused, the file is refused with the fault of the line
  pub one_refused : (result : Result RecordedAnswers AnswersFault) (f : AnswersFault) → result ≡ recorded_from end lines (split_at_newlines rest)
      → with_line lines (take at rest) ≡ Err f → result ≡ Err f
  one_refused result f e h = e ∙ line_first ∙ ap (λ r. and_then r (λ more. recorded_from end more (split_at_newlines (drop (at + 1) rest)))) h

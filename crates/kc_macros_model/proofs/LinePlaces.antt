-- Lines of a text by their numbers.
use Rattle.kc_macros_model.proofs.Common.{◌≡◌, ℕ, zero, suc, ◌+◌, Bool, true, false, cond, List, [], ◌∷◌, ◌++◌, take, drop, refl, sym, ap, ◌∙◌, append_assoc, subst, arith, ◌==◌, bytes_eq, append-nil, bytes_eq-Decides, PhysicalLine, with_first_byte, split_at_newlines, bytes_of_lines, newlines_of}
use Rattle.kc_macros_model.proofs.Common.{lines_written}
use Rattle.kc_macros_model.specs.LinePlaces.{line_after, AreAsRead, AreEmpty, Stands, as_read, replaced}
use Rattle.kc_macros_model.proofs.CleanTexts.{IsClean, clean_none, clean_first, clean_rest}
use Rattle.kc_macros_model.proofs.LineCounts.{AreCleanLines, no_lines, next_line}

-- only the last of the lines may lack a newline
pub data AreEnded : List PhysicalLine → Type 0 where
  none_ended : AreEnded []
  last_line : {l : PhysicalLine} → AreEnded (l ∷ [])
  ended_line : {l : PhysicalLine} {ls : List PhysicalLine} → l.ended ≡ true → AreEnded ls → AreEnded (l ∷ ls)

first_byte_ended : (c : ℕ) {ls : List PhysicalLine} → AreEnded ls → AreEnded (with_first_byte c ls)
first_byte_ended c none_ended = last_line
first_byte_ended c last_line = last_line
first_byte_ended c (ended_line e r) = ended_line e r

pub split_ended : (s : List ℕ) → AreEnded (split_at_newlines s)
split_ended [] = none_ended
split_ended (c ∷ s) = by_test (split_ended s) (c == 10)
  where
    by_test : AreEnded (split_at_newlines s) → (b : Bool)
        → AreEnded (cond b (record { text = []; ended = true } ∷ split_at_newlines s) (with_first_byte c (split_at_newlines s)))
    by_test r true = ended_line refl r
    by_test r false = first_byte_ended c r

-- the first line of a text, and those after it
line_first : (x rest : List ℕ) → IsClean x → line_after 0 (x ++ 10 ∷ rest) ≡ x
line_first [] rest h = refl
line_first (c ∷ x) rest h = ap (λ b. cond b [] (c ∷ line_after 0 (x ++ 10 ∷ rest))) (clean_first h) ∙ ap (λ s. c ∷ s) (line_first x rest (clean_rest h))

line_next : (x rest : List ℕ) (n : ℕ) → IsClean x → line_after (suc n) (x ++ 10 ∷ rest) ≡ line_after n rest
line_next [] rest n h = refl
line_next (c ∷ x) rest n h =
    ap (λ b. cond b (line_after n (x ++ 10 ∷ rest)) (line_after (suc n) (x ++ 10 ∷ rest))) (clean_first h) ∙ line_next x rest n (clean_rest h)

line_alone : (x : List ℕ) → IsClean x → line_after 0 x ≡ x
line_alone [] h = refl
line_alone (c ∷ x) h = ap (λ b. cond b [] (c ∷ line_after 0 x)) (clean_first h) ∙ ap (λ s. c ∷ s) (line_alone x (clean_rest h))

line_past : (x : List ℕ) (n : ℕ) → IsClean x → line_after (suc n) x ≡ []
line_past [] n h = refl
line_past (c ∷ x) n h = ap (λ b. cond b (line_after n x) (line_after (suc n) x)) (clean_first h) ∙ line_past x n (clean_rest h)

-- from the number `n` on, the lines of a file are those of this text
pub record AreFrom (written : ℕ → List ℕ) (n : ℕ) (text : List ℕ) : Type 0 where
  pub each : (k : ℕ) → written (n + k) ≡ line_after k text

pub from_same : {written : ℕ → List ℕ} {m n : ℕ} {text : List ℕ} → m ≡ n → AreFrom written m text → AreFrom written n text
from_same {written = written} e f = record { each = λ k. ap (λ x. written (x + k)) (sym e) ∙ f.each k }

pub rest_ended : {l : PhysicalLine} {ls : List PhysicalLine} → AreEnded (l ∷ ls) → AreEnded ls
rest_ended last_line = none_ended
rest_ended (ended_line t r) = r

pub dropped_ended : (m : ℕ) {ls : List PhysicalLine} → AreEnded ls → AreEnded (drop m ls)
dropped_ended zero d = d
dropped_ended (suc m) none_ended = none_ended
dropped_ended (suc m) {ls = l ∷ ls} d = dropped_ended m (rest_ended d)

pub dropped_clean : (m : ℕ) {ls : List PhysicalLine} → AreCleanLines ls → AreCleanLines (drop m ls)
dropped_clean zero h = h
dropped_clean (suc m) no_lines = no_lines
dropped_clean (suc m) (next_line h r) = dropped_clean m r

pub sum_of : (x y z : ℕ) → x + y + z ≡ x + (y + z)
sum_of x y z = omega (arith)

pub sum_none : (n : ℕ) → n ≡ n + 0
sum_none n = omega (arith)

pub sum_next : (n m : ℕ) → n + 1 + m ≡ n + suc m
sum_next n m = omega (arith)

from_first : {written : ℕ → List ℕ} {n : ℕ} {text : List ℕ} → AreFrom written n text → written n ≡ line_after 0 text
from_first {written = written} {n = n} f = ap written (sum_none n) ∙ f.each 0

from_next : {written : ℕ → List ℕ} {n : ℕ} {text : List ℕ} → AreFrom written n text → (k : ℕ) → written (n + 1 + k) ≡ line_after (suc k) text
from_next {written = written} {n = n} f k = ap written (sum_next n k) ∙ f.each (suc k)

drop_none : {A : Type 0} (m : ℕ) → drop {A = A} m [] ≡ []
drop_none zero = refl
drop_none (suc m) = refl

take_none : {A : Type 0} (m : ℕ) → take {A = A} m [] ≡ []
take_none zero = refl
take_none (suc m) = refl

-- the lines at the front of no lines, and nothing after them
pub nothing_after : (ls : List PhysicalLine) (m : ℕ) (rest : List ℕ) → ls ≡ [] → (drop m ls ≡ [] → rest ≡ []) → bytes_of_lines (take m ls) ++ rest ≡ []
nothing_after ls m rest e f = ap (λ xs. bytes_of_lines (take m xs) ++ rest) e ∙ ap (λ xs. bytes_of_lines xs ++ rest) (take_none m)
    ∙ f (ap (drop m) e ∙ drop_none m)

-- past the end of a text all lines are empty
past_end : {written : ℕ → List ℕ} (m n : ℕ) (rest : List ℕ) → rest ≡ [] → AreFrom written n rest → AreFrom written (n + suc m) rest
past_end {written = written} m n rest e f =
    record { each = λ k. ap written (sum_of n (suc m) k) ∙ f.each (suc m + k) ∙ ap (line_after (suc m + k)) e ∙ sym (ap (line_after k) e) }

module _ (written : ℕ → List ℕ) where
  -- a line with its newline, and the text after it
  with_newline : (n : ℕ) (x rest : List ℕ) → IsClean x → AreFrom written n (x ++ 10 ∷ rest) → (written n ≡ x) × AreFrom written (n + 1) rest
  with_newline n x rest h f = (from_first f ∙ line_first x rest h, record { each = λ k. from_next f k ∙ line_next x rest k h })

  -- a line without a newline, after which nothing comes
  without_newline : (n : ℕ) (x : List ℕ) → IsClean x → AreFrom written n x → (written n ≡ x) × AreFrom written (n + 1) []
  without_newline n x h f = (from_first f ∙ line_alone x h, record { each = λ k. from_next f k ∙ line_past x k h })

  -- a line that ends as this physical line does, and the text after it, which is empty where the line has no newline
  one_line : (n : ℕ) (l : PhysicalLine) (x rest : List ℕ) → IsClean x → (l.ended ≡ false → rest ≡ [])
      → AreFrom written n (cond l.ended (x ++ 10 ∷ []) x ++ rest) → (written n ≡ x) × AreFrom written (n + 1) rest
  one_line n l x rest h e f = by_test l.ended e f
    where
      by_test : (b : Bool) → (b ≡ false → rest ≡ []) → AreFrom written n (cond b (x ++ 10 ∷ []) x ++ rest) → (written n ≡ x) × AreFrom written (n + 1) rest
      by_test true e f = with_newline n x rest h (record { each = λ k. f.each k ∙ ap (line_after k) (append_assoc x (10 ∷ []) rest) })
      by_test false e f =
          let g = without_newline n x h (record { each = λ k. f.each k ∙ ap (λ r. line_after k (x ++ r)) (e refl) ∙ ap (line_after k) (append-nil x) }) in
          (g.0, record { each = λ k. g.1.each k ∙ ap (line_after k) (sym (e refl)) })

  -- how a list of lines goes on after its first line: nothing comes after a line without a newline
  after_last : {l : PhysicalLine} {ls : List PhysicalLine} (m : ℕ) (text rest : List ℕ) → AreEnded (l ∷ ls) → (ls ≡ [] → text ≡ [])
      → (drop m ls ≡ [] → rest ≡ []) → l.ended ≡ false → text ++ rest ≡ []
  after_last m text rest last_line e f g = ap (λ t. t ++ rest) (e refl) ∙ f (drop_none m)
  after_last m text rest (ended_line t r) e f g = absurd (let z : true ≡ false = sym t ∙ g in cc)

  -- the first lines of a file as they were read, and the text after them
  pub pass_as_read : (m n : ℕ) {ls : List PhysicalLine} (rest : List ℕ) → AreCleanLines ls → AreEnded ls → (drop m ls ≡ [] → rest ≡ [])
      → AreFrom written n (bytes_of_lines (take m ls) ++ rest) → AreAsRead written n (take m ls) × AreFrom written (n + m) rest
  pass_as_read zero n rest h d e f = (tt, from_same (sum_none n) f)
  pass_as_read (suc m) n rest no_lines d e f = (tt, past_end m n rest (e refl) f)
  pass_as_read (suc m) n rest (next_line {l = l} {ls = ls} h r) d e f =
      let tail = bytes_of_lines (take m ls) in
      let one = one_line n l l.text (tail ++ rest) h (after_last m tail rest d (λ z. ap (λ xs. bytes_of_lines (take m xs)) z ∙ ap bytes_of_lines (take_none m)) e)
      (record { each = λ k. f.each k ∙ ap (line_after k) (append_assoc (cond l.ended (l.text ++ 10 ∷ []) l.text) tail rest) }) in
      let more = pass_as_read m (n + 1) rest r (rest_ended d) e one.1 in
      ((one.0, more.0), from_same (sum_next n m) more.1)

  -- the newlines of the first lines of a file, and the text after them
  pub pass_empty : (m n : ℕ) {ls : List PhysicalLine} (rest : List ℕ) → AreEnded ls → (drop m ls ≡ [] → rest ≡ [])
      → AreFrom written n (newlines_of (take m ls) ++ rest) → AreEmpty written n (take m ls) × AreFrom written (n + m) rest
  pass_empty zero n rest d e f = (tt, from_same (sum_none n) f)
  pass_empty (suc m) n {ls = []} rest d e f = (tt, past_end m n rest (e refl) f)
  pass_empty (suc m) n {ls = l ∷ ls} rest d e f =
      let tail = newlines_of (take m ls) in
      let one = one_line n l [] (tail ++ rest) clean_none (after_last m tail rest d (λ z. ap (λ xs. newlines_of (take m xs)) z ∙ ap newlines_of (take_none m)) e)
      (record { each = λ k. f.each k ∙ ap (line_after k) (append_assoc (cond l.ended (10 ∷ []) []) tail rest) }) in
      let more = pass_empty m (n + 1) rest (rest_ended d) e one.1 in
      ((one.0, more.0), from_same (sum_next n m) more.1)

  -- a logical line as it is written, and the text after it
  pub line_stands : (m n : ℕ) {l : PhysicalLine} {ls : List PhysicalLine} (text new rest : List ℕ) → AreCleanLines (l ∷ ls) → AreEnded (l ∷ ls) → IsClean new
      → (drop m ls ≡ [] → rest ≡ []) → AreFrom written n (lines_written (l ∷ take m ls) text new ++ rest)
      → Stands written n l (take m ls) text new × AreFrom written (n + 1 + m) rest
  line_stands m n {l = l} {ls = ls} text new rest h d c e f = by_test (bytes_eq new text) refl f
    where
      by_test : (b : Bool) → bytes_eq new text ≡ b → AreFrom written n (cond b (bytes_of_lines (l ∷ take m ls)) (new ++ newlines_of (l ∷ take m ls)) ++ rest)
          → Stands written n l (take m ls) text new × AreFrom written (n + 1 + m) rest
      by_test true q f =
          let all = pass_as_read (suc m) n {ls = l ∷ ls} rest h d e f in
          (subst (λ z. Stands written n l (take m ls) text z) (sym ((bytes_eq-Decides new text).0 q)) (as_read all.0), from_same (sym (sum_next n m)) all.1)
      by_test false q f =
          let tail = newlines_of (take m ls) in
          let one = one_line n l new (tail ++ rest) c (after_last m tail rest d (λ z. ap (λ xs. newlines_of (take m xs)) z ∙ ap newlines_of (take_none m)) e)
          (record { each = λ k. f.each k ∙ ap (line_after k) (ended_by l.ended tail) }) in
          let more = pass_empty m (n + 1) rest (rest_ended d) e one.1 in
          (replaced one.0 more.0, more.1)
        where
          ended_by : (b : Bool) (tail : List ℕ) → (new ++ (cond b (10 ∷ []) [] ++ tail)) ++ rest ≡ cond b (new ++ 10 ∷ []) new ++ (tail ++ rest)
          ended_by true tail = append_assoc new (10 ∷ tail) rest ∙ sym (append_assoc new (10 ∷ []) (tail ++ rest))
          ended_by false tail = append_assoc new tail rest

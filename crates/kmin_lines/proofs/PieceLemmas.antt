-- Texts and the pieces into which an end byte cuts them; lines and the carriage returns at their ends.
use Rattle.std.proofs.Common.{◌≡◌, ℕ, zero, suc, ◌-◌, ◌<◌, ◌==◌, Bool, true, false, not, ◌&&◌, cond, List, [], ◌∷◌, ◌++◌, length, map, refl, sym, ap, ◌∙◌, take, drop, get_or, arith}
use Rattle.std.specs.List.{onto_first}
use Rattle.std.proofs.Math.Seq.{take-suc}
use Rattle.std.proofs.lemmas.Grind.{common_steps}
use Rattle.std.proofs.lemmas.Bool.{false_from_ne_true, eqb-true, eq-eqb}
use Rattle.kc_value.specs.Lines.{pieces, has_no_byte}
use Rattle.kmin_lines.specs.Lines.{lines_of, without_carriage_return}

-- a text with a byte `ender` at `at` consists of the bytes before it, that byte, and the bytes after it
pub parted_at : (ender : ℕ) (text : List ℕ) (at : ℕ) → at < length text → (get_or text at 0 == ender) ≡ true
    → text ≡ take at text ++ ender ∷ drop (suc at) text
parted_at ender [] at l found = absurd (omega arith)
parted_at ender (c ∷ cs) zero l found = ap (λ b. b ∷ cs) (eqb-true c ender found)
parted_at ender (c ∷ cs) (suc n) l found = ap (λ bytes. c ∷ bytes) (parted_at ender cs n (omega arith) found)

-- a text without a byte `ender` at any place has no byte `ender`
pub none_in : (ender : ℕ) (text : List ℕ) → ((k : ℕ) → k < length text → (get_or text k 0 == ender) ≡ true → ⊥) → has_no_byte ender text ≡ true
none_in ender [] none = refl
none_in ender (c ∷ cs) none =
    rw (false_from_ne_true (c == ender) (none 0 (omega arith))) (none_in ender cs (λ k h. none (suc k) (omega arith)))

-- the bytes before the first byte `ender` of a text have no byte `ender`
pub none_before : (ender : ℕ) (text : List ℕ) (at : ℕ) → at < length text → ((k : ℕ) → k < at → (get_or text k 0 == ender) ≡ true → ⊥)
    → has_no_byte ender (take at text) ≡ true
none_before ender [] at l before = absurd (omega arith)
none_before ender (c ∷ cs) zero l before = refl
none_before ender (c ∷ cs) (suc n) l before =
    rw (false_from_ne_true (c == ender) (before 0 (omega arith))) (none_before ender cs n (omega arith) (λ k h. before (suc k) (omega arith)))

-- the first piece of a text is the bytes before a first byte `ender`, and the bytes after it give the rest
begin_cases : (ender c : ℕ) (cs rest : List ℕ) (b : Bool) → (not b && has_no_byte ender cs) ≡ true
    → (has_no_byte ender cs ≡ true → pieces ender (cs ++ ender ∷ rest) ≡ cs ∷ pieces ender rest)
    → cond b ([] ∷ pieces ender (cs ++ ender ∷ rest)) (onto_first c (pieces ender (cs ++ ender ∷ rest))) ≡ (c ∷ cs) ∷ pieces ender rest
begin_cases ender c cs rest true alone next = cc
begin_cases ender c cs rest false alone next = rw (next alone) refl

pub pieces_parted : (ender : ℕ) (piece rest : List ℕ) → has_no_byte ender piece ≡ true → pieces ender (piece ++ ender ∷ rest) ≡ piece ∷ pieces ender rest
pieces_parted ender [] rest alone = rw (eq-eqb ender ender refl) refl
pieces_parted ender (c ∷ cs) rest alone = begin_cases ender c cs rest (c == ender) alone (pieces_parted ender cs rest)

-- a text that isn't empty and has no byte `ender` is one piece
onto_next : (ender c : ℕ) (cs front back : List ℕ) (b : Bool) → (c == ender) ≡ b → ((c == ender) ≡ true → ⊥) → pieces ender cs ≡ front ∷ pieces ender back
    → cond b ([] ∷ pieces ender cs) (onto_first c (pieces ender cs)) ≡ (c ∷ front) ∷ pieces ender back
onto_next ender c cs front back true e other h = absurd (other e)
onto_next ender c cs front back false e other h = rw h refl

pub one_piece : (ender : ℕ) (text : List ℕ) → 0 < length text → ((k : ℕ) → k < length text → (get_or text k 0 == ender) ≡ true → ⊥)
    → pieces ender text ≡ text ∷ []
one_piece ender [] some none = absurd (omega arith)
one_piece ender (c ∷ []) some none = rw (false_from_ne_true (c == ender) (none 0 (omega arith))) refl
one_piece ender (c ∷ d ∷ cs) some none =
    onto_next ender c (d ∷ cs) (d ∷ cs) [] (c == ender) refl (none 0 (omega arith)) (one_piece ender (d ∷ cs) (omega arith) (λ k h. none (suc k) (omega arith)))

-- taking `length text - n` bytes of a text after its first `n` bytes takes all the bytes after those
pub rest_from : (n : ℕ) (text : List ℕ) → take (length text - n) (drop n text) ≡ drop n text
rest_from n text = grind (arith, common_steps)

pub rest_from_end : (text : List ℕ) → take (length text - length text) (drop (length text) text) ≡ []
rest_from_end text = grind (arith, common_steps)

-- `without_carriage_return` leaves out a carriage return at the end of a line
return_left_out : (front : List ℕ) → without_carriage_return (front ++ 13 ∷ []) ≡ front
return_left_out [] = refl
return_left_out (b ∷ []) = refl
return_left_out (b ∷ c ∷ front) = ap (λ line. b ∷ line) (return_left_out (c ∷ front))

-- `without_carriage_return` keeps any other byte at the end of a line
last_kept : (front : List ℕ) (last : ℕ) → (last == 13) ≡ false → without_carriage_return (front ++ last ∷ []) ≡ front ++ last ∷ []
last_kept [] last other = rw other refl
last_kept (b ∷ []) last other = rw other refl
last_kept (b ∷ c ∷ front) last other = ap (λ line. b ∷ line) (last_kept (c ∷ front) last other)

front_and_last : (line : List ℕ) (n : ℕ) → suc n ≡ length line → line ≡ take n line ++ get_or line n 0 ∷ []
front_and_last line n e =
    let l : n < length line = omega arith in
    let whole : take (suc n) line ≡ line = rw e (grind (arith, common_steps)) in
    sym whole ∙ take-suc line n 0 l

pub trimmed : (line : List ℕ) → 0 < length line → get_or line (length line - 1) 0 ≡ 13 → take (length line - 1) line ≡ without_carriage_return line
trimmed line some last =
    let n = length line - 1 in
    let parts : line ≡ take n line ++ get_or line n 0 ∷ [] = front_and_last line n (omega arith) in
    let ended : line ≡ take n line ++ 13 ∷ [] = parts ∙ ap (λ b. take n line ++ b ∷ []) last in
    sym (ap without_carriage_return ended ∙ return_left_out (take n line))

pub untrimmed : (line : List ℕ) → 0 < length line → (get_or line (length line - 1) 0 ≡ 13 → ⊥) → line ≡ without_carriage_return line
untrimmed line some last =
    let n = length line - 1 in
    let parts : line ≡ take n line ++ get_or line n 0 ∷ [] = front_and_last line n (omega arith) in
    parts ∙ sym (ap without_carriage_return parts ∙ last_kept (take n line) (get_or line n 0)
    (false_from_ne_true (get_or line n 0 == 13) (λ same. last (eqb-true (get_or line n 0) 13 same))))

pub no_line : (line : List ℕ) → length line ≡ 0 → line ≡ without_carriage_return line
no_line [] e = refl
no_line (b ∷ line) e = absurd (omega arith)

-- the first line of a text is its first piece without a carriage return, and the rest of the text has the other lines
pub first_line : (text piece line after : List ℕ) → pieces 10 text ≡ piece ∷ pieces 10 after → line ≡ without_carriage_return piece
    → lines_of text ≡ line ∷ lines_of after
first_line text piece line after cut trims = ap (map without_carriage_return) cut ∙ ap (λ l. l ∷ lines_of after) (sym trims)

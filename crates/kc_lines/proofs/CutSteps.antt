-- Lines at the front of a list of bytes, up to the first newline or to the end.
use Rattle.std.proofs.Common.{nat_lt, ◌&&◌, cond, subst, get_or-drop, ◌≡◌, ℕ, suc, zero, ◌+◌, ◌≤◌, ◌<◌, Bool, true, false, List, [], ◌∷◌, length, drop, take, refl, ap, sym, ◌∙◌, arith, get_or, ◌-◌, ◌==◌, length-drop, map, drop-drop}
use Rattle.std.proofs.lemmas.List.{get_or-take, length-take-le}
use Rattle.std.proofs.lemmas.Bool.Decides.{nat_tests}
use Rattle.std.proofs.Math.Seq.{drop-length, take-length}
use Rattle.kc_tree_model.specs.LogicalLines.{split_at_newlines, with_first_byte, physical_lines, without_return, without_last, last_byte}
use Rattle.kc_lines.specs.between.LinePlaces.{IsLineAt}
use Rattle.kc_lines.specs.checker.Newlines.{HasNoNewline, IsNewlineFrom, text_end}

-- the bytes up to the first newline are the first line
pub cut_at_newline : (n : ℕ) (bs : List ℕ) → n < length bs → ((k : ℕ) → k < n → (get_or bs k 0 == 10) ≡ false) → (get_or bs n 0 == 10) ≡ true
    → split_at_newlines bs ≡ record { text = take n bs; ended = true } ∷ split_at_newlines (drop (suc n) bs)
cut_at_newline n [] h before e = absurd (omega arith)
cut_at_newline zero (b ∷ bs) h before e = rw e refl
cut_at_newline (suc n) (b ∷ bs) h before e =
    let first : (b == 10) ≡ false = before 0 (omega arith) in
    let rest = cut_at_newline n bs (omega arith) (λ k l. before (suc k) (omega arith)) e in
    rw first (ap (with_first_byte b) rest)

-- bytes without a newline are one line, which no newline ends
pub cut_at_end : (bs : List ℕ) → 0 < length bs → ((k : ℕ) → k < length bs → (get_or bs k 0 == 10) ≡ false)
    → split_at_newlines bs ≡ record { text = bs; ended = false } ∷ []
cut_at_end [] h none = absurd (omega arith)
cut_at_end (b ∷ []) h none = let first : (b == 10) ≡ false = none 0 (omega arith) in rw first refl
cut_at_end (b ∷ c ∷ bs) h none =
    let first : (b == 10) ≡ false = none 0 (omega arith) in
    let rest = cut_at_end (c ∷ bs) (omega arith) (λ k l. none (suc k) (omega arith)) in
    rw first (ap (with_first_byte b) rest)

pub is_false : (b : Bool) → (b ≡ true → ⊥) → b ≡ false
is_false true h = absurd (h refl)
is_false false h = refl

pub take_less : (m n : ℕ) (xs : List ℕ) → m ≤ n → take m (take n xs) ≡ take m xs
take_less zero n xs h = refl
take_less (suc m) zero xs h = absurd (omega arith)
take_less (suc m) (suc n) [] h = refl
take_less (suc m) (suc n) (x ∷ xs) h = ap (λ t. x ∷ t) (take_less m n xs (omega arith))

-- without a newline from `at` on, the rest of the file is its last line
pub line_at_end : (bytes : List ℕ) (at : ℕ) → at < length bytes → HasNoNewline bytes at (length bytes)
    → IsLineAt bytes at (record { end = length bytes; next = length bytes; ended = false })
line_at_end bytes at h none =
    let c = cut_at_end (drop at bytes) (omega (arith, length-drop at bytes))
    (λ k l. rw (get_or-drop at bytes k 0) (none (at + k) (omega arith) (omega (arith, l, length-drop at bytes)))) in
    record {
      whole = whole_end c;
      lines = rw (c, drop-length bytes) (ap (λ t. record { text = t; ended = false } ∷ [])
          (sym (ap (λ k. take k (drop at bytes)) (sym (length-drop at bytes)) ∙ take-length (drop at bytes))));
      start = omega arith;
      end = omega arith;
      forward = omega arith;
      within = omega arith;
    }
  where
    whole_end : split_at_newlines (drop at bytes) ≡ record { text = drop at bytes; ended = false } ∷ []
        → split_at_newlines (drop at bytes) ≡ record { text = take (length bytes - at) (drop at bytes); ended = false } ∷ split_at_newlines
        (drop (length bytes) bytes)
    whole_end c =
        c ∙ ap (λ t. record { text = t; ended = false } ∷ []) (sym (ap (λ k. take k (drop at bytes)) (sym (length-drop at bytes))
        ∙ take-length (drop at bytes)))
        ∙ ap (λ ls. record { text = take (length bytes - at) (drop at bytes); ended = false } ∷ ls) (sym (ap split_at_newlines (drop-length bytes)))

-- the last byte of the line that a newline ends, and the line without it
last_of : (n : ℕ) (rest : List ℕ) → 0 < n → n ≤ length rest → last_byte (take n rest) ≡ get_or rest (n - 1) 0
last_of n rest p h = rw (length-take-le n rest h) (get_or-take n rest (n - 1) 0 (omega arith))

without_last_of : (n : ℕ) (rest : List ℕ) → n ≤ length rest → without_last (take n rest) ≡ take (n - 1) rest
without_last_of n rest h = rw (length-take-le n rest h) (take_less (n - 1) n rest (omega arith))

returned : (t : List ℕ) → (last_byte t == 13) ≡ true → without_return (record { text = t; ended = true }) ≡ record { text = without_last t; ended = true }
returned t e = rw e refl

kept : (t : List ℕ) → (last_byte t == 13) ≡ false → without_return (record { text = t; ended = true }) ≡ record { text = t; ended = true }
kept t e = rw e refl

-- no carriage return at the end
no_return : (n : ℕ) (rest : List ℕ) → n ≤ length rest → (0 < n → get_or rest (n - 1) 0 ≡ 13 → ⊥) → (last_byte (take n rest) == 13) ≡ false
no_return zero rest h none = refl
no_return (suc n) rest h none =
    rw (last_of (suc n) rest (omega arith) h) (is_false (get_or rest (suc n - 1) 0 == 13) (λ e. none (omega arith) (grind (arith, nat_tests))))

module _ (bytes : List ℕ) (at n : ℕ) (h : n < length (drop at bytes)) (before : (k : ℕ) → k < n → (get_or (drop at bytes) k 0 == 10) ≡ false)
    (here : (get_or (drop at bytes) n 0 == 10) ≡ true) where
  at_newline : split_at_newlines (drop at bytes) ≡ record { text = take n (drop at bytes); ended = true } ∷ split_at_newlines (drop (at + n + 1) bytes)
  at_newline =
      let behind : drop (suc n) (drop at bytes) ≡ drop (at + n + 1) bytes = rw drop-drop (ap (λ k. drop k bytes) (omega arith)) in
      cut_at_newline n (drop at bytes) h before here
      ∙ ap (λ t. record { text = take n (drop at bytes); ended = true } ∷ split_at_newlines t) behind

  -- the first line at `at`, with a carriage return before its newline
  at_newline_whole : split_at_newlines (drop at bytes) ≡ record { text = take (at + n + 1 - 1 - at) (drop at bytes); ended = true } ∷ split_at_newlines
      (drop (at + n + 1) bytes)
  at_newline_whole = at_newline ∙ ap (λ k. record { text = take k (drop at bytes); ended = true } ∷ split_at_newlines (drop (at + n + 1) bytes))
      (let k : n ≡ at + n + 1 - 1 - at = omega arith in k)

  line_returned : 0 < n → get_or (drop at bytes) (n - 1) 0 ≡ 13 → IsLineAt bytes at (record { end = at + n - 1; next = at + n + 1; ended = true })
  line_returned p e =
      let l : last_byte (take n (drop at bytes)) ≡ 13 = last_of n (drop at bytes) p (omega arith) ∙ e in
      let w : (last_byte (take n (drop at bytes)) == 13) ≡ true = ap (λ x. x == 13) l in
      record {
        whole = at_newline_whole;
        lines = ap (map without_return) at_newline ∙ ap (λ t. t ∷ physical_lines (drop (at + n + 1) bytes))
            (returned (take n (drop at bytes)) w ∙ ap (λ t. record { text = t; ended = true }) (without_last_of n (drop at bytes) (omega arith)
            ∙ ap (λ k. take k (drop at bytes)) (omega arith)));
        start = omega arith;
        end = omega arith;
        forward = omega arith;
        within = omega (arith, length-drop at bytes);
      }

  line_kept : (0 < n → get_or (drop at bytes) (n - 1) 0 ≡ 13 → ⊥) → IsLineAt bytes at (record { end = at + n; next = at + n + 1; ended = true })
  line_kept none =
      let w = no_return n (drop at bytes) (omega arith) none in
      record {
        whole = at_newline_whole;
        lines = ap (map without_return) at_newline ∙ ap (λ t. t ∷ physical_lines (drop (at + n + 1) bytes))
            (kept (take n (drop at bytes)) w ∙ ap (λ t. record { text = t; ended = true }) (ap (λ k. take k (drop at bytes)) (omega arith)));
        start = omega arith;
        end = omega arith;
        forward = omega arith;
        within = omega (arith, length-drop at bytes);
      }

-- the line whose newline is the first from `at` on
module _ (bytes : List ℕ) (at place : ℕ) (first : IsNewlineFrom bytes at place) (there : place < length bytes) where
  place_is : at + (place - at) ≡ place
  place_is = omega (arith, first.order)

  room : place - at < length (drop at bytes)
  room = omega (arith, first.order, there, length-drop at bytes)

  before_place : (k : ℕ) → k < place - at → (get_or (drop at bytes) k 0 == 10) ≡ false
  before_place k l = rw (get_or-drop at bytes k 0) (first.none (at + k) (omega arith) (omega arith))

  at_place : (get_or (drop at bytes) (place - at) 0 == 10) ≡ true
  at_place = rw (get_or-drop at bytes (place - at) 0, place_is) (first.here there)

  last_is : at < place → get_or (drop at bytes) (place - at - 1) 0 ≡ get_or bytes (place - 1) 0
  last_is l = get_or-drop at bytes (place - at - 1) 0 ∙ ap (λ k. get_or bytes k 0) (omega arith)

  line_ends : (b : Bool) → (nat_lt at place && (get_or bytes (place - 1) 0 == 13)) ≡ b
      → IsLineAt bytes at (record { end = cond b (place - 1) place; next = place + 1; ended = true })
  line_ends true e =
      let l : at < place = grind (arith, nat_tests) in
      let r : get_or bytes (place - 1) 0 ≡ 13 = grind (arith, nat_tests) in
      subst (λ (q : ℕ). IsLineAt bytes at (record { end = q - 1; next = q + 1; ended = true })) place_is
      (line_returned bytes at (place - at) room before_place at_place (omega arith) (last_is l ∙ r))
  line_ends false e =
      subst (λ (q : ℕ). IsLineAt bytes at (record { end = q; next = q + 1; ended = true })) place_is
      (line_kept bytes at (place - at) room before_place at_place (λ p r. let l : at < place = omega arith in
      let s : get_or bytes (place - 1) 0 ≡ 13 = sym (last_is l) ∙ r in grind (arith, nat_tests)))

  pub line_at_newline : IsLineAt bytes at (record { end = text_end bytes at place; next = place + 1; ended = true })
  line_at_newline = line_ends (nat_lt at place && (get_or bytes (place - 1) 0 == 13)) refl

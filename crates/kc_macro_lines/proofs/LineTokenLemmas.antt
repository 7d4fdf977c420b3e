-- A line is its tokens in a row.
use Rattle.kc_macro_lines.proofs.Common.{◌≡◌, ℕ, zero, suc, ◌-◌, ◌<◌, ◌≤◌, Bool, true, false, ◌||◌, cond, List, [], ◌∷◌, ◌++◌, length, take, drop, get_or, refl, sym, ap, ◌∙◌, subst, arith, length-append, ◌==◌, pred, not, nat_lt, list_any, append-nil, drop_all, eqb-true, is_white_byte, item_bytes}
use Rattle.kc_macro_lines.proofs.Common.{first_item, items, is_unterminated, LineToken, trivia, run, quoted, other, broken, token_bytes, extent, is_run_byte, run_token, quoted_token, first_token, line_tokens, bytes_of_tokens, is_trivia_token, first_token_of, has_token, rest_is}
use Rattle.std.proofs.lemmas.Bool.{ltb-true}

-- where an extent stops
extent_stops : (q : Bool) (ends : ℕ → Bool) (skip : ℕ) (s : List ℕ) → extent q ends skip s < length s → ends (get_or s (extent q ends skip s) 0) ≡ true
extent_stops q ends zero [] h = absurd (omega arith)
extent_stops q ends (suc skip) [] h = absurd (omega arith)
extent_stops q ends (suc skip) (c ∷ s) h = extent_stops q ends skip s (omega (arith, h))
extent_stops q ends zero (c ∷ s) h = by_test (λ k. extent_stops q ends (pred (length (item_bytes (first_item q c s)))) s k) (ends c) refl h
  where
    later : ℕ
    later = extent q ends (pred (length (item_bytes (first_item q c s)))) s

    by_test : (later < length s → ends (get_or s later 0) ≡ true) → (b : Bool) → ends c ≡ b → cond b 0 (suc later) < length (c ∷ s)
        → ends (get_or (c ∷ s) (cond b 0 (suc later)) 0) ≡ true
    by_test ih true e h = e
    by_test ih false e h = ih (omega (arith, h))

taken_row : (n : ℕ) (s : List ℕ) → s ≡ take n s ++ drop (length (take n s)) s
taken_row zero s = refl
taken_row (suc n) [] = refl
taken_row (suc n) (c ∷ s) = ap (λ x. c ∷ x) (taken_row n s)

quote_row : (n c : ℕ) (s : List ℕ) → n < length s → get_or s n 0 ≡ c → s ≡ (take n s ++ c ∷ []) ++ drop (length (take n s ++ c ∷ [])) s
quote_row n c [] h e = absurd (omega arith)
quote_row zero c (d ∷ s) h e = ap (λ x. x ∷ s) e
quote_row (suc n) c (d ∷ s) h e = ap (λ x. d ∷ x) (quote_row n c s (omega (arith, h)) e)

whole_row : (c : ℕ) (s : List ℕ) → c ∷ s ≡ (c ∷ s) ++ drop (length s) s
whole_row c s = sym (ap (λ x. (c ∷ s) ++ x) (drop_all (length s) s (omega arith)) ∙ append-nil (c ∷ s))

-- a token at the front and the bytes after it
record IsFirstToken (c : ℕ) (s : List ℕ) (t : LineToken) : Type 0 where
  row : c ∷ s ≡ token_bytes t ++ drop (pred (length (token_bytes t))) s
  some : length (token_bytes t) ≡ suc (pred (length (token_bytes t)))

run_first : (c : ℕ) (s : List ℕ) (k : ℕ) → IsFirstToken c s (run_token (take (suc k) (c ∷ s)))
run_first c s k = by_test (list_any is_unterminated (items false 0 (c ∷ take k s)))
  where
    by_test : (b : Bool) → IsFirstToken c s (cond b (broken (c ∷ take k s)) (run (c ∷ take k s)))
    by_test true = record { row = ap (λ x. c ∷ x) (taken_row k s); some = refl }
    by_test false = record { row = ap (λ x. c ∷ x) (taken_row k s); some = refl }

quoted_first : (c : ℕ) (s : List ℕ) → IsFirstToken c s (quoted_token (extent true (λ d. d == c) 0 s) c s)
quoted_first c s = by_tests (list_any is_unterminated (items true 0 (take n s))) (nat_lt n (length s)) refl
  where
    n : ℕ
    n = extent true (λ d. d == c) 0 s

    by_tests : (b d : Bool) → nat_lt n (length s) ≡ d → IsFirstToken c s (cond b (broken (c ∷ s)) (cond d (quoted c (take n s)) (other (c ∷ s))))
    by_tests true d e = record { row = whole_row c s; some = refl }
    by_tests false false e = record { row = whole_row c s; some = refl }
    by_tests false true e =
        let h : n < length s = ltb-true n (length s) e in
        record { row = ap (λ x. c ∷ x) (quote_row n c s h (eqb-true (get_or s n 0) c (extent_stops true (λ d. d == c) 0 s h))); some = refl }

first_is : (c : ℕ) (s : List ℕ) → IsFirstToken c s (first_token c s)
first_is c s = by_tests (is_white_byte c) (c == 35) (is_run_byte c) refl (c == 34 || (c == 39))
  where
    more : ℕ
    more = extent false (λ d. not (is_run_byte d)) (pred (length (item_bytes (first_item false c s)))) s

    run_len : ℕ
    run_len = cond (not (is_run_byte c)) 0 (suc more)

    by_tests : (x y z : Bool) → is_run_byte c ≡ z → (u : Bool) → IsFirstToken c s
        (cond x (trivia (c ∷ [])) (cond y (trivia (c ∷ s)) (cond z (run_token (take run_len (c ∷ s)))
        (cond u (quoted_token (extent true (λ d. d == c) 0 s) c s) (other (c ∷ []))))))
    by_tests true y z e u = record { row = refl; some = refl }
    by_tests false true z e u = record { row = whole_row c s; some = refl }
    by_tests false false true e u = subst (λ k. IsFirstToken c s (run_token (take k (c ∷ s)))) (sym (ap (λ b. cond (not b) 0 (suc more)) e))
        (run_first c s more)
    by_tests false false false e true = quoted_first c s
    by_tests false false false e false = record { row = refl; some = refl }

-- the bytes of the tokens of a line are the bytes of the line
pub row_of_tokens : (skip : ℕ) (s : List ℕ) → bytes_of_tokens (line_tokens skip s) ≡ drop skip s
row_of_tokens zero [] = refl
row_of_tokens (suc skip) [] = refl
row_of_tokens (suc skip) (c ∷ s) = row_of_tokens skip s
row_of_tokens zero (c ∷ s) =
    let t = first_token c s in
    ap (λ x. token_bytes t ++ x) (row_of_tokens (pred (length (token_bytes t))) s) ∙ sym (first_is c s).row

pub tokens_skip : (n : ℕ) (s : List ℕ) → line_tokens n s ≡ line_tokens 0 (drop n s)
tokens_skip zero s = refl
tokens_skip (suc n) [] = refl
tokens_skip (suc n) (c ∷ s) = tokens_skip n s

module _ (s : List ℕ) (n : ℕ) (some : 0 < length s) (len : n ≡ length (token_bytes (first_token_of s))) where
  -- the tokens of a line are its first token and the tokens of the bytes after it
  pub tokens_first : line_tokens 0 s ≡ first_token_of s ∷ line_tokens 0 (take (length s - n) (drop n s))
  tokens_first = by_front s some len ∙ ap (λ x. first_token_of s ∷ line_tokens 0 x) (sym (rest_is s n))
    where
      by_front : (s : List ℕ) → 0 < length s → n ≡ length (token_bytes (first_token_of s)) → line_tokens 0 s ≡ first_token_of s ∷ line_tokens 0 (drop n s)
      by_front [] h e = absurd (omega arith)
      by_front (c ∷ s) h e =
          let t = first_token c s in
          ap (λ ts. t ∷ ts) (tokens_skip (pred (length (token_bytes t))) s ∙ ap (λ k. line_tokens 0 (drop k (c ∷ s))) (sym (e ∙ (first_is c s).some)))

-- the first token of a text that isn't empty has at least one byte, and at most those of the text
pub token_fits : (s : List ℕ) → 0 < length s → (0 < length (token_bytes (first_token_of s))) × (length (token_bytes (first_token_of s)) ≤ length s)
token_fits [] h = absurd (omega arith)
token_fits (c ∷ s) h =
    let f = first_is c s in
    let t = first_token c s in
    (omega (arith, f.some), omega (arith, ap length f.row, length-append (token_bytes t) (drop (pred (length (token_bytes t))) s)))

-- a line has a token that is no trivia if `has_token` finds one
pub any_token : (s : List ℕ) → list_any (λ t. not (is_trivia_token t)) (line_tokens 0 s) ≡ has_token s
any_token [] = refl
any_token (c ∷ s) = by_tests (any_token s) (is_white_byte c) (c == 35) (is_run_byte c) (c == 34 || (c == 39))
  where
    run_len : ℕ
    run_len = extent false (λ d. not (is_run_byte d)) 0 (c ∷ s)

    any_of : LineToken → Bool
    any_of t = list_any (λ t. not (is_trivia_token t)) (t ∷ line_tokens (pred (length (token_bytes t))) s)

    run_any : (x : List ℕ) (b : Bool) → any_of (cond b (broken x) (run x)) ≡ true
    run_any x true = refl
    run_any x false = refl

    quoted_any : (n : ℕ) (b d : Bool) → any_of (cond b (broken (c ∷ s)) (cond d (quoted c (take n s)) (other (c ∷ s)))) ≡ true
    quoted_any n true d = refl
    quoted_any n false true = refl
    quoted_any n false false = refl

    by_tests : list_any (λ t. not (is_trivia_token t)) (line_tokens 0 s) ≡ has_token s → (x y z u : Bool)
        → any_of (cond x (trivia (c ∷ [])) (cond y (trivia (c ∷ s)) (cond z (run_token (take run_len (c ∷ s)))
        (cond u (quoted_token (extent true (λ d. d == c) 0 s) c s) (other (c ∷ [])))))) ≡ cond x (has_token s) (not y)
    by_tests ih true y z u = ih
    by_tests ih false true z u = ap (λ ts. list_any (λ t. not (is_trivia_token t)) ts) (tokens_skip (length s) s
        ∙ ap (line_tokens 0) (drop_all (length s) s (omega arith)))
    by_tests ih false false true u = run_any (take run_len (c ∷ s)) (list_any is_unterminated (items false 0 (take run_len (c ∷ s))))
    by_tests ih false false false true =
        let n = extent true (λ d. d == c) 0 s in quoted_any n (list_any is_unterminated (items true 0 (take n s))) (nat_lt n (length s))
    by_tests ih false false false false = refl

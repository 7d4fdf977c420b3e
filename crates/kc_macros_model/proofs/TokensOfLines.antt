-- A line and the tokens into which it is cut.
use Rattle.kc_macros_model.proofs.Common.{◌≡◌, ℕ, zero, suc, ◌<◌, ◌≤◌, Bool, true, false, ◌||◌, cond, List, [], ◌∷◌, ◌++◌, length, take, drop, refl, sym, ap, ◌∙◌, subst, append_assoc, arith, length-append, ◌==◌, pred, not, nat_lt, list_any, take-append-drop, append-nil, eqb-true, ltb-true}
use Rattle.kc_macros_model.proofs.Common.{is_white_byte, item_bytes, first_item, items, is_unterminated, LineToken, trivia, run, quoted, other, broken, token_bytes, extent, is_run_byte, run_token, quoted_token, first_token, line_tokens, bytes_of_tokens}

pub tokens_passed : (xs ys : List ℕ) → line_tokens (length xs) (xs ++ ys) ≡ line_tokens 0 ys
tokens_passed [] ys = refl
tokens_passed (c ∷ xs) ys = tokens_passed xs ys

-- the bytes are a front, of at least one byte, of the text that begins with byte `c` and then `s`
pub record IsFront (bytes : List ℕ) (c : ℕ) (s : List ℕ) : Type 0 where
  pub more : List ℕ
  pub rest : List ℕ
  pub begins : bytes ≡ c ∷ more
  pub parts : s ≡ more ++ rest

front_all : (c : ℕ) (s : List ℕ) → IsFront (c ∷ s) c s
front_all c s = record { more = s; rest = []; begins = refl; parts = sym (append-nil s) }

front_one : (c : ℕ) (s : List ℕ) → IsFront (c ∷ []) c s
front_one c s = record { more = []; rest = s; begins = refl; parts = refl }

front_take : (n c : ℕ) (s : List ℕ) → IsFront (take (suc n) (c ∷ s)) c s
front_take n c s = record { more = take n s; rest = drop n s; begins = refl; parts = sym (take-append-drop n s) }

-- where the extent of bytes before an end byte is shorter than the text, the byte after it is an end byte
pub extent_ends : (q : Bool) (ends : ℕ → Bool) (k : ℕ) (s : List ℕ) → extent q ends k s < length s
    → (c : ℕ) × (ends c ≡ true) × (s ≡ take (extent q ends k s) s ++ c ∷ drop (suc (extent q ends k s)) s)
extent_ends q ends k [] h = absurd (omega (arith, h))
extent_ends q ends (suc k) (d ∷ s) h =
    let (c, e, p) = extent_ends q ends k s (omega (arith, h)) in (c, e, ap (λ x. d ∷ x) p)
extent_ends q ends zero (d ∷ s) h = by_end (extent_ends q ends (pred (length (item_bytes (first_item q d s)))) s) (ends d) refl h
  where
    next : ℕ
    next = extent q ends (pred (length (item_bytes (first_item q d s)))) s

    by_end : (next < length s → (c : ℕ) × (ends c ≡ true) × (s ≡ take next s ++ c ∷ drop (suc next) s)) → (b : Bool) → ends d ≡ b
        → cond b 0 (suc next) < suc (length s)
        → (c : ℕ) × (ends c ≡ true) × (d ∷ s ≡ take (cond b 0 (suc next)) (d ∷ s) ++ c ∷ drop (suc (cond b 0 (suc next))) (d ∷ s))
    by_end ih true e h = (d, e, refl)
    by_end ih false e h = let (c, e2, p) = ih (omega (arith, h)) in (c, e2, ap (λ x. d ∷ x) p)

run_front : (c : ℕ) (s bytes : List ℕ) → IsFront bytes c s → IsFront (token_bytes (run_token bytes)) c s
run_front c s bytes f = by_test (list_any is_unterminated (items false 0 bytes))
  where
    by_test : (b : Bool) → IsFront (token_bytes (cond b (broken bytes) (run bytes))) c s
    by_test true = f
    by_test false = f

run_extent_front : (c : ℕ) (s : List ℕ) → is_run_byte c ≡ true → IsFront (take (extent false (λ d. not (is_run_byte d)) 0 (c ∷ s)) (c ∷ s)) c s
run_extent_front c s e =
    let n = extent false (λ d. not (is_run_byte d)) (pred (length (item_bytes (first_item false c s)))) s in
    subst (λ b. IsFront (take (cond (not b) 0 (suc n)) (c ∷ s)) c s) (sym e) (front_take n c s)

quoted_front : (c : ℕ) (s : List ℕ) → IsFront (token_bytes (quoted_token (extent true (λ d. d == c) 0 s) c s)) c s
quoted_front c s = by_tests (list_any is_unterminated (items true 0 (take n s))) (nat_lt n (length s)) refl
  where
    n : ℕ
    n = extent true (λ d. d == c) 0 s

    closed_front : n < length s → IsFront (c ∷ (take n s ++ c ∷ [])) c s
    closed_front h =
        let (d, e, p) = extent_ends true (λ d. d == c) 0 s h in
        let q : d ≡ c = eqb-true d c e in
        record {
          more = take n s ++ c ∷ [];
          rest = drop (suc n) s;
          begins = refl;
          parts = subst (λ x. s ≡ take n s ++ x ∷ drop (suc n) s) q p
              ∙ sym (append_assoc (take n s) (c ∷ []) (drop (suc n) s));
        }

    by_tests : (a b : Bool) → nat_lt n (length s) ≡ b → IsFront (token_bytes (cond a (broken (c ∷ s)) (cond b (quoted c (take n s)) (other (c ∷ s))))) c s
    by_tests true b e = front_all c s
    by_tests false false e = front_all c s
    by_tests false true e = closed_front (ltb-true n (length s) e)

token_front : (c : ℕ) (s : List ℕ) → IsFront (token_bytes (first_token c s)) c s
token_front c s = by_tests (is_white_byte c) (c == 35) (is_run_byte c) (c == 34 || (c == 39)) refl
  where
    by_tests : (w h r q : Bool) → is_run_byte c ≡ r
        → IsFront (token_bytes (cond w (trivia (c ∷ [])) (cond h (trivia (c ∷ s))
        (cond r (run_token (take (extent false (λ d. not (is_run_byte d)) 0 (c ∷ s)) (c ∷ s)))
        (cond q (quoted_token (extent true (λ d. d == c) 0 s) c s) (other (c ∷ []))))))) c s
    by_tests true h r q e = front_one c s
    by_tests false true r q e = front_all c s
    by_tests false false true q e = run_front c s (take (extent false (λ d. not (is_run_byte d)) 0 (c ∷ s)) (c ∷ s)) (run_extent_front c s e)
    by_tests false false false true e = quoted_front c s
    by_tests false false false false e = front_one c s

-- the bytes are a row of these tokens, each of which is the first token of the bytes from it on
pub data IsInTokens : List ℕ → List LineToken → Type 0 where
  no_bytes : IsInTokens [] []
  next_token : {c : ℕ} {s rest : List ℕ} {ts : List LineToken} (more : List ℕ) → token_bytes (first_token c s) ≡ c ∷ more → s ≡ more ++ rest
      → IsInTokens rest ts → IsInTokens (c ∷ s) (first_token c s ∷ ts)

tokens_within : (n : ℕ) (s : List ℕ) → length s ≤ n → IsInTokens s (line_tokens 0 s)
tokens_within n [] h = no_bytes
tokens_within zero (c ∷ s) h = absurd (omega (arith, h))
tokens_within (suc n) (c ∷ s) h =
    let t = first_token c s in
    let f = token_front c s in
    let le : length f.rest ≤ n = omega (arith, h, ap length f.parts, length-append f.more f.rest) in
    let e : line_tokens (pred (length (token_bytes t))) s ≡ line_tokens 0 f.rest =
    ap (λ m. line_tokens (pred (length m)) s) f.begins ∙ ap (λ x. line_tokens (length f.more) x) f.parts ∙ tokens_passed f.more f.rest in
    subst (λ ts. IsInTokens (c ∷ s) (t ∷ ts)) (sym e) (next_token f.more f.begins f.parts (tokens_within n f.rest le))

-- a logical line is a row of its tokens, each of which is the first token of the bytes from it on
pub is_in_tokens : (s : List ℕ) → IsInTokens s (line_tokens 0 s)
is_in_tokens s = tokens_within (length s) s (omega arith)

in_a_row : {s : List ℕ} {ts : List LineToken} → IsInTokens s ts → bytes_of_tokens ts ≡ s
in_a_row no_bytes = refl
in_a_row (next_token {c = c} {s = s} {rest = rest} {ts = ts} more begins parts r) =
    ap (λ x. token_bytes (first_token c s) ++ x) (in_a_row r) ∙ ap (λ x. x ++ rest) begins ∙ ap (λ x. c ∷ x) (sym parts)

-- the bytes of the tokens of a line, one after the other, are the line
pub tokens_are_line : (s : List ℕ) → bytes_of_tokens (line_tokens 0 s) ≡ s
tokens_are_line s = in_a_row (is_in_tokens s)

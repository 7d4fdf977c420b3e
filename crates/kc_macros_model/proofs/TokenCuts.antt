-- The tokens of a line one by one, each with the bytes after it.
use Rattle.kc_macros_model.proofs.Common.{◌≡◌, ℕ, zero, suc, ◌<◌, ◌≤◌, Bool, true, false, ◌||◌, cond, List, [], ◌∷◌, ◌++◌, length, take, drop, refl, sym, ap, ◌∙◌, subst, append_assoc, arith, length-append, ◌==◌, pred, not, nat_lt, list_any, take-append-drop, append-nil, eqb-true, ltb-true}
use Rattle.kc_macros_model.proofs.Common.{is_white_byte, item_bytes, first_item, items, is_unterminated, LineToken, trivia, run, quoted, other, broken, token_bytes, extent, is_run_byte, quoted_token, first_token, line_tokens, has_dollar}
use Rattle.kc_macros_model.proofs.CleanTexts.{neither_first, neither_second}
use Rattle.kc_macros_model.proofs.QuotedTexts.{byte_first, IsQuotedInside, up_to_quote}
use Rattle.kc_macros_model.proofs.TokensOfLines.{tokens_passed, extent_ends}

abbrev pub ends_run : ℕ → Bool
ends_run d = not (is_run_byte d)

-- whether a text begins with a byte of a run: a byte of a word, or `$`
abbrev pub begins_with_run : List ℕ → Bool
begins_with_run [] = false
begins_with_run (c ∷ s) = is_run_byte c

-- all bytes are bytes of words, none of them a `$`
pub data AreWordBytes : List ℕ → Type 0 where
  no_word_bytes : AreWordBytes []
  next_word_byte : {c : ℕ} {s : List ℕ} → is_run_byte c ≡ true → (c == 36) ≡ false → AreWordBytes s → AreWordBytes (c ∷ s)

pub data IsQuote : ℕ → Type 0 where
  double_quote : IsQuote 34
  single_quote : IsQuote 39

-- this token is the first of a line that begins with byte `c` and then `s`, and these are the bytes after the token
pub data IsCut (c : ℕ) (s : List ℕ) : LineToken → List ℕ → Type 0 where
  cut_white : is_white_byte c ≡ true → IsCut c s (trivia (c ∷ [])) s
  cut_comment : first_token c s ≡ trivia (c ∷ s) → IsCut c s (trivia (c ∷ s)) []
  cut_run : {r rest : List ℕ} → is_run_byte c ≡ true → list_any is_unterminated (items false 0 (c ∷ r)) ≡ false
      → (has_dollar (c ∷ r) ≡ false → AreWordBytes (c ∷ r)) → begins_with_run rest ≡ false → IsCut c s (run (c ∷ r)) rest
  cut_broken : {t rest : List ℕ} → IsCut c s (broken t) rest
  cut_quoted : {inside rest : List ℕ} → IsQuote c → IsQuotedInside c inside (items true 0 inside) → IsCut c s (quoted c inside) rest
  cut_open : first_token c s ≡ other (c ∷ s) → IsCut c s (other (c ∷ s)) []
  cut_other : is_white_byte c ≡ false → (c == 35) ≡ false → is_run_byte c ≡ false → (c == 34 || (c == 39)) ≡ false → IsCut c s (other (c ∷ [])) s

-- this token is the first of a line that begins with byte `c` and then `s`, as the bytes of the token and those after it show
pub record IsCutAt (c : ℕ) (s : List ℕ) (t : LineToken) : Type 0 where
  pub more : List ℕ
  pub rest : List ℕ
  pub begins : token_bytes t ≡ c ∷ more
  pub parts : s ≡ more ++ rest
  pub cut : IsCut c s t rest

rest_of_run : (k : ℕ) (s : List ℕ) → begins_with_run (drop (extent false ends_run k s) s) ≡ false
rest_of_run zero [] = refl
rest_of_run (suc k) [] = refl
rest_of_run (suc k) (d ∷ s) = rest_of_run k s
rest_of_run zero (d ∷ s) = by_test (rest_of_run (pred (length (item_bytes (first_item false d s)))) s) (is_run_byte d) refl
  where
    next : ℕ
    next = extent false ends_run (pred (length (item_bytes (first_item false d s)))) s

    by_test : begins_with_run (drop next s) ≡ false → (b : Bool) → is_run_byte d ≡ b → begins_with_run (drop (cond (not b) 0 (suc next)) (d ∷ s)) ≡ false
    by_test ih true e = ih
    by_test ih false e = e

words_of_run : (s : List ℕ) → has_dollar (take (extent false ends_run 0 s) s) ≡ false → AreWordBytes (take (extent false ends_run 0 s) s)
words_of_run [] h = no_word_bytes
words_of_run (c ∷ s) h = by_test (words_of_run s) (is_run_byte c) refl h
  where
    next : ℕ
    next = extent false ends_run (pred (length (item_bytes (first_item false c s)))) s

    by_test : (has_dollar (take (extent false ends_run 0 s) s) ≡ false → AreWordBytes (take (extent false ends_run 0 s) s)) → (b : Bool) → is_run_byte c ≡ b
        → has_dollar (take (cond (not b) 0 (suc next)) (c ∷ s)) ≡ false → AreWordBytes (take (cond (not b) 0 (suc next)) (c ∷ s))
    by_test ih false e h = no_word_bytes
    by_test ih true e h =
        let plain : (c == 36) ≡ false = neither_first (c == 36) (has_dollar (take next s)) h in
        let near : next ≡ extent false ends_run 0 s = ap (λ i. extent false ends_run (pred (length (item_bytes i))) s) (byte_first false c s plain refl) in
        next_word_byte e plain (subst (λ n. AreWordBytes (take n s)) (sym near)
        (ih (ap (λ n. has_dollar (take n s)) (sym near) ∙ neither_second (c == 36) (has_dollar (take next s)) h)))

-- the token at the front of a text is a run of `n` bytes
record IsRunCut (c : ℕ) (s : List ℕ) (n : ℕ) : Type 0 where
  more : List ℕ
  rest : List ℕ
  begins : take n (c ∷ s) ≡ c ∷ more
  parts : s ≡ more ++ rest
  ends : begins_with_run rest ≡ false

run_cut : (c : ℕ) (s : List ℕ) → is_run_byte c ≡ true → IsRunCut c s (extent false ends_run 0 (c ∷ s))
run_cut c s e =
    let k = pred (length (item_bytes (first_item false c s))) in
    let n = extent false ends_run k s in
    subst (λ b. IsRunCut c s (cond (not b) 0 (suc n))) (sym e) (record {
      more = take n s;
      rest = drop n s;
      begins = refl;
      parts = sym (take-append-drop n s);
      ends = rest_of_run k s;
    })

run_at : (c : ℕ) (s bytes : List ℕ) (f : (more rest : List ℕ) → bytes ≡ c ∷ more → s ≡ more ++ rest → begins_with_run rest ≡ false
    → IsCutAt c s (cond (list_any is_unterminated (items false 0 bytes)) (broken bytes) (run bytes))) → (n : ℕ) → take n (c ∷ s) ≡ bytes → IsRunCut c s n
    → IsCutAt c s (cond (list_any is_unterminated (items false 0 bytes)) (broken bytes) (run bytes))
run_at c s bytes f n same r = f r.more r.rest (sym same ∙ r.begins) r.parts r.ends

run_cut_at : (c : ℕ) (s bytes : List ℕ) → is_run_byte c ≡ true → (has_dollar bytes ≡ false → AreWordBytes bytes) → (more rest : List ℕ) → bytes ≡ c ∷ more
    → s ≡ more ++ rest → begins_with_run rest ≡ false
    → IsCutAt c s (cond (list_any is_unterminated (items false 0 bytes)) (broken bytes) (run bytes))
run_cut_at c s bytes e words more rest begins parts ends = by_test (list_any is_unterminated (items false 0 bytes)) refl
  where
    by_test : (b : Bool) → list_any is_unterminated (items false 0 bytes) ≡ b → IsCutAt c s (cond b (broken bytes) (run bytes))
    by_test true h = record { more = more; rest = rest; begins = begins; parts = parts; cut = cut_broken }
    by_test false h = record {
      more = more;
      rest = rest;
      begins = begins;
      parts = parts;
      cut = subst (λ x. IsCut c s (run x) rest) (sym begins) (cut_run e (subst (λ x. list_any is_unterminated (items false 0 x) ≡ false) begins h)
          (subst (λ x. has_dollar x ≡ false → AreWordBytes x) begins words) ends);
    }

is_quote : (c : ℕ) → (c == 34 || (c == 39)) ≡ true → IsQuote c
is_quote c e = by_test (c == 34) refl e
  where
    by_test : (b : Bool) → (c == 34) ≡ b → (b || (c == 39)) ≡ true → IsQuote c
    by_test true h e = subst (λ x. IsQuote x) (sym (eqb-true c 34 h)) double_quote
    by_test false h e = subst (λ x. IsQuote x) (sym (eqb-true c 39 e)) single_quote

quoted_cut_at : (c : ℕ) (s : List ℕ) → IsQuote c → (first_token c s ≡ quoted_token (extent true (λ d. d == c) 0 s) c s)
    → IsCutAt c s (quoted_token (extent true (λ d. d == c) 0 s) c s)
quoted_cut_at c s q first = by_tests (list_any is_unterminated (items true 0 (take n s))) (nat_lt n (length s)) refl first
  where
    n : ℕ
    n = extent true (λ d. d == c) 0 s

    closed : n < length s → IsCutAt c s (quoted c (take n s))
    closed h =
        let (d, e, p) = extent_ends true (λ d. d == c) 0 s h in
        let r : d ≡ c = eqb-true d c e in
        record {
          more = take n s ++ c ∷ [];
          rest = drop (suc n) s;
          begins = refl;
          parts = subst (λ x. s ≡ take n s ++ x ∷ drop (suc n) s) r p ∙ sym (append_assoc (take n s) (c ∷ []) (drop (suc n) s));
          cut = cut_quoted q (up_to_quote c s h);
        }

    by_tests : (a b : Bool) → nat_lt n (length s) ≡ b → first_token c s ≡ cond a (broken (c ∷ s)) (cond b (quoted c (take n s)) (other (c ∷ s)))
        → IsCutAt c s (cond a (broken (c ∷ s)) (cond b (quoted c (take n s)) (other (c ∷ s))))
    by_tests true b e f = record { more = s; rest = []; begins = refl; parts = sym (append-nil s); cut = cut_broken }
    by_tests false false e f = record { more = s; rest = []; begins = refl; parts = sym (append-nil s); cut = cut_open f }
    by_tests false true e f = closed (ltb-true n (length s) e)

cut_at : (c : ℕ) (s : List ℕ) → IsCutAt c s (first_token c s)
cut_at c s = by_tests (is_white_byte c) (c == 35) (is_run_byte c) (c == 34 || (c == 39)) refl refl refl refl refl
  where
    bytes : List ℕ
    bytes = take (extent false ends_run 0 (c ∷ s)) (c ∷ s)

    as_run : LineToken
    as_run = cond (list_any is_unterminated (items false 0 bytes)) (broken bytes) (run bytes)

    as_quoted : LineToken
    as_quoted = quoted_token (extent true (λ d. d == c) 0 s) c s

    by_tests : (x y z u : Bool) → is_white_byte c ≡ x → (c == 35) ≡ y → is_run_byte c ≡ z → (c == 34 || (c == 39)) ≡ u
        → first_token c s ≡ cond x (trivia (c ∷ [])) (cond y (trivia (c ∷ s)) (cond z as_run (cond u as_quoted (other (c ∷ [])))))
        → IsCutAt c s (cond x (trivia (c ∷ [])) (cond y (trivia (c ∷ s)) (cond z as_run (cond u as_quoted (other (c ∷ []))))))
    by_tests true y z u hx hy hz hu f = record { more = []; rest = s; begins = refl; parts = refl; cut = cut_white hx }
    by_tests false true z u hx hy hz hu f = record { more = s; rest = []; begins = refl; parts = sym (append-nil s); cut = cut_comment f }
    by_tests false false true u hx hy hz hu f =
        run_at c s bytes (run_cut_at c s bytes hz (words_of_run (c ∷ s))) (extent false ends_run 0 (c ∷ s)) refl (run_cut c s hz)
    by_tests false false false true hx hy hz hu f = quoted_cut_at c s (is_quote c hu) f
    by_tests false false false false hx hy hz hu f = record { more = []; rest = s; begins = refl; parts = refl; cut = cut_other hx hy hz hu }

-- the bytes are cut one after the other into these tokens of a logical line
pub data AreCuts : List ℕ → List LineToken → Type 0 where
  no_cuts : AreCuts [] []
  next_cut : {c : ℕ} {s rest : List ℕ} {t : LineToken} {ts : List LineToken} → IsCut c s t rest → AreCuts rest ts → AreCuts (c ∷ s) (t ∷ ts)

cuts_within : (n : ℕ) (s : List ℕ) → length s ≤ n → AreCuts s (line_tokens 0 s)
cuts_within n [] h = no_cuts
cuts_within zero (c ∷ s) h = absurd (omega (arith, h))
cuts_within (suc n) (c ∷ s) h =
    let t = first_token c s in
    let f : IsCutAt c s t = cut_at c s in
    let le : length f.rest ≤ n = omega (arith, h, ap length f.parts, length-append f.more f.rest) in
    let e : line_tokens (pred (length (token_bytes t))) s ≡ line_tokens 0 f.rest =
    ap (λ m. line_tokens (pred (length m)) s) f.begins ∙ ap (λ x. line_tokens (length f.more) x) f.parts ∙ tokens_passed f.more f.rest in
    subst (λ ts. AreCuts (c ∷ s) (t ∷ ts)) (sym e) (next_cut f.cut (cuts_within n f.rest le))

-- the tokens of a line are those into which it is cut one after the other
pub cuts_of : (s : List ℕ) → AreCuts s (line_tokens 0 s)
cuts_of s = cuts_within (length s) s (omega arith)

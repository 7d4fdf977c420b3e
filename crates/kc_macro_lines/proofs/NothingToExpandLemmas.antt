-- Lines without `$`: their words, and the tests that most words and bytes fail.
use Rattle.std.proofs.Common.{◌≢◌}
use Rattle.std.specs.Prelude.{take_while}
use Rattle.std.specs.List.{All, list_all}
use Rattle.kc_macro_lines.proofs.Common.{◌≡◌, ℕ, zero, suc, ◌<◌, Bool, true, false, ◌||◌, cond, List, [], ◌∷◌, ◌++◌, length, take, drop, get_or, refl, sym, ap, ◌∙◌, subst, arith, ◌==◌, not, pred, nat_le, bytes_eq, codes, is_utf8, drop_all, is_white_byte, is_in_list, Place, returns, ◌>>=◌, Bindings}
use Rattle.kc_macro_lines.proofs.Common.{quoted_text_of, joined_quoted_texts, written_items, byte, escaped, item_bytes, first_item, items, LineToken, trivia, run, broken, other, token_bytes, extent, is_run_byte, run_token, quoted_token, first_token, line_tokens, without_front, prompt_words, source_words}
use Rattle.kc_macro_lines.proofs.Common.{help_words, has_dollar_or_backslash, is_acting_word, has_dollar_or_wide, HasNothingToExpand}
use Rattle.std.proofs.lemmas.Bool.{and_parts, leb-false}
use Rattle.std.proofs.lemmas.List.Elements.{All-nil, All-cons}
use Rattle.std.proofs.lemmas.List.Sums.{take_while-cons}
use Rattle.std.proofs.lemmas.Slice.Eq.{bytes_eq-Decides}
use Rattle.std.proofs.lemmas.Str.{is_utf8-from_IsUtf8, IsUtf8-from_ascii}
use Rattle.std.proofs.lemmas.Str.Ascii.{IsAscii-from_all}
use Rattle.kc_macro_lines.specs.checker.LinesWithoutMacros.{ends_acting, may_begin_prompt}
use Rattle.kc_macro_lines.proofs.LineTokenLemmas.{tokens_skip}
use Rattle.kc_macro_lines.proofs.CopiedLineLemmas.{has_dollar, all_terminated, either_false, first_plain, rest_plain, take_plain, first_is, passed_dropped, failed_stays, nothing_after_white, nothing_by_tokens}

-- the first item of a text without `$`, outside quotes, is its first byte
one_byte : (c : ℕ) (s : List ℕ) → (c == 36) ≡ false → first_item false c s ≡ byte c
one_byte c [] e = refl
one_byte c (d ∷ s) e = first_is false c d s e

-- without `$`, a run goes as far as its bytes do
run_extent : (s : List ℕ) → has_dollar s ≡ false → extent false (λ d. not (is_run_byte d)) 0 s ≡ length (take_while is_run_byte s)
run_extent [] h = refl
run_extent (c ∷ s) h =
    ap (λ i. cond (not (is_run_byte c)) 0 (suc (extent false (λ d. not (is_run_byte d)) (pred (length (item_bytes i))) s))) (one_byte c s (first_plain c s h))
    ∙ by_test (run_extent s (rest_plain c s h)) (is_run_byte c)
    ∙ sym (ap length (take_while-cons is_run_byte c s))
  where
    by_test : extent false (λ d. not (is_run_byte d)) 0 s ≡ length (take_while is_run_byte s) → (b : Bool)
        → cond (not b) 0 (suc (extent false (λ d. not (is_run_byte d)) 0 s)) ≡ length (cond b (c ∷ take_while is_run_byte s) [])
    by_test ih true = ap suc ih
    by_test ih false = refl

drop_taken : (m : ℕ) (s : List ℕ) → drop (length (take m s)) s ≡ drop m s
drop_taken zero s = refl
drop_taken (suc m) [] = refl
drop_taken (suc m) (c ∷ s) = drop_taken m s

-- the first byte after white is no white byte
front_ink : (text : List ℕ) → is_white_byte (get_or (without_front is_white_byte text) 0 0) ≡ false
front_ink [] = refl
front_ink (c ∷ s) = by_test (front_ink s) (is_white_byte c) refl
  where
    by_test : is_white_byte (get_or (without_front is_white_byte s) 0 0) ≡ false → (b : Bool) → is_white_byte c ≡ b
        → is_white_byte (get_or (without_front is_white_byte (c ∷ s)) 0 0) ≡ false
    by_test ih true e = ap (λ x. is_white_byte (get_or x 0 0)) (passed_dropped is_white_byte c s e) ∙ ih
    by_test ih false e = ap (λ x. is_white_byte (get_or x 0 0)) (failed_stays is_white_byte c s e) ∙ e

module _ (c : ℕ) (s : List ℕ) (m : ℕ) (h : has_dollar (c ∷ s) ≡ false) (e : suc m ≡ length (take_while is_run_byte (c ∷ s))) (w : is_white_byte c ≡ false)
    (k : (c == 35) ≡ false) where
  begins_run : is_run_byte c ≡ true
  begins_run = by_test (is_run_byte c) refl
    where
      by_test : (b : Bool) → is_run_byte c ≡ b → b ≡ true
      by_test true f = refl
      by_test false f = absurd (let z : suc m ≡ 0 = e ∙ ap length (take_while-cons is_run_byte c s ∙ ap (λ t. cond t (c ∷ take_while is_run_byte s) []) f) in
          let y : ⊥ = cc in y)

  abbrev word : List ℕ
  word = take (suc m) (c ∷ s)

  first_run : first_token c s ≡ run word
  first_run =
      ap (λ x. cond x (trivia (c ∷ []))
      (cond (c == 35) (trivia (c ∷ s)) (cond (is_run_byte c) (run_token (take (extent false (λ d. not (is_run_byte d)) 0 (c ∷ s)) (c ∷ s)))
      (after_run (c == 34 || (c == 39)))))) w
      ∙ ap (λ x. cond x (trivia (c ∷ s)) (cond (is_run_byte c) (run_token (take (extent false (λ d. not (is_run_byte d)) 0 (c ∷ s)) (c ∷ s)))
      (after_run (c == 34 || (c == 39))))) k
      ∙ ap (λ x. cond x (run_token (take (extent false (λ d. not (is_run_byte d)) 0 (c ∷ s)) (c ∷ s))) (after_run (c == 34 || (c == 39)))) begins_run
      ∙ ap (λ n. run_token (take n (c ∷ s))) (run_extent (c ∷ s) h ∙ sym e)
      ∙ ap (λ b. cond b (broken word) (run word)) (all_terminated false word (take_plain (suc m) (c ∷ s) h))
    where
      after_run : Bool → LineToken
      after_run u = cond u (quoted_token (extent true (λ d. d == c) 0 s) c s) (other (c ∷ []))

  first_word : line_tokens 0 (c ∷ s) ≡ run word ∷ line_tokens 0 (drop (suc m) (c ∷ s))
  first_word =
      ap (λ t. t ∷ line_tokens (pred (length (token_bytes t))) s) first_run
      ∙ ap (λ ts. run word ∷ ts) (tokens_skip (length (take m s)) s ∙ ap (line_tokens 0) (drop_taken m s))

-- the word at the front of a text without `$` is its first token
word_at : (rest : List ℕ) (n : ℕ) → has_dollar rest ≡ false → n ≡ length (take_while is_run_byte rest) → n ≢ 0 → is_white_byte (get_or rest 0 0) ≡ false
    → (get_or rest 0 0 == 35) ≡ false
    → line_tokens 0 rest ≡ run (take n rest) ∷ line_tokens 0 (drop n rest)
word_at rest zero h e some w k = absurd (some refl)
word_at [] (suc m) h e some w k = absurd (let z : suc m ≡ 0 = e in let y : ⊥ = cc in y)
word_at (c ∷ s) (suc m) h e some w k = first_word c s m h e w k

dropped_plain : (n : ℕ) (s : List ℕ) → has_dollar s ≡ false → has_dollar (drop n s) ≡ false
dropped_plain zero s h = h
dropped_plain (suc n) [] h = refl
dropped_plain (suc n) (c ∷ s) h = dropped_plain n s (rest_plain c s h)

pub rest_without_dollar : (text rest : List ℕ) → rest ≡ without_front is_white_byte text → has_dollar text ≡ false → has_dollar rest ≡ false
rest_without_dollar text rest e h = ap has_dollar e ∙ dropped_plain _ text h

-- a line without `$` whose first word begins nothing to expand, with the tokens after it, has nothing to expand
pub nothing_by_word : (text rest : List ℕ) (n : ℕ) (word after : List ℕ) → rest ≡ without_front is_white_byte text → has_dollar text ≡ false
    → n ≡ length (take_while is_run_byte rest) → n ≢ 0 → (get_or rest 0 0 == 35) ≡ false
    → word ≡ take n rest → after ≡ drop n rest → HasNothingToExpand (run word ∷ line_tokens 0 after) → HasNothingToExpand (line_tokens 0 text)
nothing_by_word text rest n word after e h len some k f g q =
    nothing_by_tokens text rest (run (take n rest)) (line_tokens 0 (drop n rest)) e
    (word_at rest n (rest_without_dollar text rest e h) len some (ap (λ x. is_white_byte (get_or x 0 0)) e ∙ front_ink text) k)
    (subst (λ x. HasNothingToExpand (run (take n rest) ∷ line_tokens 0 x)) g (subst (λ x. HasNothingToExpand (run x ∷ line_tokens 0 after)) f q))

pub nothing_in_empty : (text rest : List ℕ) → rest ≡ without_front is_white_byte text → length rest ≡ 0 → HasNothingToExpand (line_tokens 0 text)
nothing_in_empty text [] e h = nothing_after_white text (subst (λ x. HasNothingToExpand (line_tokens 0 x)) e tt)
nothing_in_empty text (c ∷ r) e h = absurd (omega arith)

nothing_after_hash : (s : List ℕ) → HasNothingToExpand (line_tokens 0 (35 ∷ s))
nothing_after_hash s = subst HasNothingToExpand (sym (tokens_skip (length s) s ∙ ap (line_tokens 0) (drop_all (length s) s (omega arith)))) tt

pub nothing_in_comment : (text rest : List ℕ) → rest ≡ without_front is_white_byte text → get_or rest 0 0 ≡ 35 → HasNothingToExpand (line_tokens 0 text)
nothing_in_comment text [] e h = absurd (let z : 0 ≡ 35 = h in let y : ⊥ = cc in y)
nothing_in_comment text (c ∷ s) e h =
    nothing_after_white text (subst (λ x. HasNothingToExpand (line_tokens 0 x)) e (subst (λ x. HasNothingToExpand (line_tokens 0 (x ∷ s))) (sym h) (nothing_after_hash s)))

-- a word that fails a test which another passes is another
other_word : (P : List ℕ → Bool) (v w : List ℕ) → P v ≡ true → P w ≡ false → bytes_eq v w ≡ false
other_word P v w h k = by_test (bytes_eq v w) refl
  where
    by_test : (b : Bool) → bytes_eq v w ≡ b → b ≡ false
    by_test true e = absurd (let z : true ≡ false = sym h ∙ ap P ((bytes_eq-Decides v w).0 e) ∙ k in let y : ⊥ = cc in y)
    by_test false e = refl

not_among : (P : List ℕ → Bool) (w : List ℕ) (vs : List (List ℕ)) → list_all P vs ≡ true → P w ≡ false → is_in_list w vs ≡ false
not_among P w [] h k = refl
not_among P w (v ∷ vs) h k = let i = and_parts (P v) (list_all P vs) h in ap (λ b. b || is_in_list w vs) (other_word P v w i.0 k) ∙ not_among P w vs i.1 k

-- the same with the sides of the comparison turned
turned_word : (P : List ℕ → Bool) (v w : List ℕ) → P v ≡ true → P w ≡ false → bytes_eq w v ≡ false
turned_word P v w h k = by_test (bytes_eq w v) refl
  where
    by_test : (b : Bool) → bytes_eq w v ≡ b → b ≡ false
    by_test true e = absurd (let z : true ≡ false = sym h ∙ ap P (sym ((bytes_eq-Decides w v).0 e)) ∙ k in let y : ⊥ = cc in y)
    by_test false e = refl

-- a word without the last byte of an acting word, such as `source` or `help`, isn't one
pub acts_not : (w : List ℕ) → ends_acting w ≡ false → is_acting_word w ≡ false
acts_not w h =
    ap (λ x. x || is_in_list w help_words || bytes_eq w (codes "choice") || bytes_eq w (codes "option")) (not_among ends_acting w source_words refl h)
    ∙ ap (λ x. x || bytes_eq w (codes "choice") || bytes_eq w (codes "option")) (not_among ends_acting w help_words refl h)
    ∙ ap (λ x. x || bytes_eq w (codes "option")) (turned_word ends_acting (codes "choice") w refl h)
    ∙ turned_word ends_acting (codes "option") w refl h

-- a prompt doesn't follow a word without the first and last byte of one that a prompt follows
pub prompts_not : (w : List ℕ) → may_begin_prompt w ≡ false → is_in_list w prompt_words ≡ false
prompts_not w h = not_among may_begin_prompt w prompt_words refl h

-- a text that has neither a `$` nor a byte that isn't ASCII has no `$`
pub no_dollar_in : (text : List ℕ) → has_dollar_or_wide text ≡ false → has_dollar text ≡ false
no_dollar_in [] h = refl
no_dollar_in (c ∷ s) h =
    let a = either_false (c == 36 || nat_le 128 c) (has_dollar_or_wide s) h in
    ap (λ x. x || has_dollar s) (either_false (c == 36) (nat_le 128 c) a.0).0 ∙ no_dollar_in s a.1

all_narrow : (text : List ℕ) → has_dollar_or_wide text ≡ false → All (λ b. b < 128) text
all_narrow [] h = All-nil (λ b. b < 128)
all_narrow (c ∷ s) h =
    let a = either_false (c == 36 || nat_le 128 c) (has_dollar_or_wide s) h in
    All-cons (λ b. b < 128) c s (leb-false 128 c (either_false (c == 36) (nat_le 128 c) a.0).1) (all_narrow s a.1)

pub narrow_is_utf8 : (text : List ℕ) → has_dollar_or_wide text ≡ false → is_utf8 text ≡ true
narrow_is_utf8 text h = is_utf8-from_IsUtf8 text (IsUtf8-from_ascii text (IsAscii-from_all text (all_narrow text h)))

-- bytes between quotes without `$` and `\` are written as they are
pub plain_written : (at : Place) (b : Bindings) (quote : ℕ) (s : List ℕ) → has_dollar_or_backslash s ≡ false
    → written_items at b quote (items true 0 s) ≡ returns (quoted_text_of s s)
plain_written at b quote [] h = refl
plain_written at b quote (c ∷ []) h =
    let e = either_false (c == 36) (c == 92) (either_false (c == 36 || (c == 92)) false h).0 in
    ap (λ t. returns (quoted_text_of (cond t (92 ∷ c ∷ []) (c ∷ []) ++ []) (c ∷ []))) e.0
plain_written at b quote (c ∷ d ∷ s) h =
    let both = either_false (c == 36 || (c == 92)) (has_dollar_or_backslash (d ∷ s)) h in
    let e = either_false (c == 36) (c == 92) both.0 in
    let first : first_item true c (d ∷ s) ≡ byte c = first_is true c d s e.0 ∙ ap (λ t. cond t (escaped d) (byte c)) e.1 in
    ap (written_items at b quote) (ap (λ x. x ∷ items true (pred (length (item_bytes x))) (d ∷ s)) first)
    ∙ ap (λ p. p >>= λ rest. returns (joined_quoted_texts (quoted_text_of (cond (c == 36) (92 ∷ c ∷ []) (c ∷ [])) (c ∷ [])) rest)) (plain_written at b quote (d ∷ s) both.1)
    ∙ ap (λ t. returns (quoted_text_of (cond t (92 ∷ c ∷ []) (c ∷ []) ++ d ∷ s) (c ∷ d ∷ s))) e.0

-- The written tokens of a line have nothing left to expand.
use Rattle.kc_macros_model.proofs.Common.{◌≡◌, ℕ, suc, ◌<◌, Bool, true, false, ◌&&◌, ◌||◌, cond, List, [], ◌∷◌, ◌++◌, length, take, Option, Some, None, refl, sym, ap, ◌∙◌, subst, append_assoc, arith, length-append, take-append_seam, ◌==◌, pred, not, nat_lt, is_none, list_all, list_any, first_so}
use Rattle.kc_macros_model.proofs.Common.{second_so, eqb-true, append-nil, is_white_byte, Place, Program, returns, stops, ◌>>=◌, Item, item_bytes, first_item, items, is_reference, is_plain_dollar, is_unterminated, Value, Bindings, LineToken, trivia, run, quoted, other, broken, token_bytes, extent}
use Rattle.kc_macros_model.proofs.Common.{is_run_byte, run_token, quoted_token, first_token, line_tokens, Trivia, Word, Quoted, Other, is_bare_byte, is_keyword, escaped_text, in_quotes_of, WrittenToken, written_as, token_of_text, token_of_value, written_items, token_of_quoted_text, run_value, written_token}
use Rattle.kc_macros_model.proofs.Common.{AssignedText, assignment_at, LineContent, assigns, tokens, with_token, is_trivia, is_unknown, is_open_front, assignment_or, line_content, environment_asked, form_of, line_bytes, World, returned, ending_in, has_dollar, is_kept_token, is_assignment}
use Rattle.kc_macros_model.proofs.Common.{is_plain_form, tokens_as_they_are, plain_path, is_one_of, is_copied, no_paths}
use Rattle.std.proofs.lemmas.Bool.{lt-ltb}
use Rattle.kc_tokens.specs.Token.{is_word_byte}
use Rattle.kc_macros_model.specs.Expansion.{text_value}
use Rattle.kc_macros_model.specs.SecondExpansionLaws.{is_left_with_dollar, NothingIsLeftToExpand, WrittenLinesStay}
use Rattle.kc_macros_model.proofs.CleanTexts.{neither_first, neither_second}
use Rattle.kc_macros_model.proofs.ExpansionByRules.{split_return, same_return}
use Rattle.kc_macros_model.proofs.PlainTokens.{plain_items, no_plain_dollar, no_unterminated, all_kept, run_kept}
use Rattle.kc_macros_model.proofs.PlainLines.{plain_lines_stay}
use Rattle.kc_macros_model.proofs.QuotedTexts.{IsQuotedText, escaped_is_quoted_text, body_items, body_extent, inside_written, byte_first}
use Rattle.kc_macros_model.proofs.TextItems.{IsRow, no_items, then_byte, then_reference, then_unterminated, is_row}
use Rattle.kc_macros_model.proofs.TokenCuts.{ends_run, begins_with_run, AreWordBytes, no_word_bytes, next_word_byte, IsQuote, double_quote, single_quote, IsCut, cut_white, cut_comment, cut_run, cut_broken, cut_quoted, cut_open, cut_other, AreCuts, no_cuts, next_cut, cuts_of}
use Rattle.kc_macros_model.proofs.TokensOfLines.{tokens_passed}

-- a text whose tokens have nothing to expand
abbrev IsKept : List ℕ → Type 0
IsKept s = list_all is_kept_token (line_tokens 0 s) ≡ true

-- a text has nothing to expand if its first token hasn't and the text after that token hasn't
kept_front : (c : ℕ) (s more y : List ℕ) (t : LineToken) → first_token c s ≡ t → token_bytes t ≡ c ∷ more → s ≡ more ++ y → is_kept_token t ≡ true → IsKept y
    → IsKept (c ∷ s)
kept_front c s more y t first bytes parts kept h =
    ap (λ t. list_all is_kept_token (t ∷ line_tokens (pred (length (token_bytes t))) s)) first
    ∙ ap (λ m. is_kept_token t && list_all is_kept_token (line_tokens (pred (length m)) s)) bytes
    ∙ ap (λ z. is_kept_token t && list_all is_kept_token (line_tokens (length more) z)) parts
    ∙ ap (λ ts. is_kept_token t && list_all is_kept_token ts) (tokens_passed more y)
    ∙ ap (λ b. b && list_all is_kept_token (line_tokens 0 y)) kept
    ∙ h

-- a byte of some kind isn't one that isn't of this kind
pub other_byte : (c k : ℕ) (p : ℕ → Bool) → p c ≡ true → p k ≡ false → (c == k) ≡ false
other_byte c k p r n = by_test (c == k) refl
  where
    by_test : (b : Bool) → (c == k) ≡ b → b ≡ false
    by_test true e = let z : true ≡ false = sym r ∙ ap p (eqb-true c k e) ∙ n in let y : ⊥ = cc in absurd y
    by_test false e = refl

none_of_five : (a b c d e : Bool) → a ≡ false → b ≡ false → c ≡ false → d ≡ false → e ≡ false → (a || b || c || d || e) ≡ false
none_of_five a b c d e ha hb hc hd he = ap (λ x. x || b || c || d || e) ha ∙ ap (λ x. false || x || c || d || e) hb ∙ ap (λ x. false || false || x || d || e) hc
    ∙ ap (λ x. false || false || false || x || e) hd ∙ he

not_white : (c : ℕ) → is_run_byte c ≡ true → is_white_byte c ≡ false
not_white c r =
    none_of_five (c == 9) (c == 11) (c == 12) (c == 13) (c == 32) (other_byte c 9 is_run_byte r refl) (other_byte c 11 is_run_byte r refl)
    (other_byte c 12 is_run_byte r refl) (other_byte c 13 is_run_byte r refl) (other_byte c 32 is_run_byte r refl)

-- words
pub no_dollars : {s : List ℕ} → AreWordBytes s → has_dollar s ≡ false
no_dollars no_word_bytes = refl
no_dollars (next_word_byte {c = c} {s = s} r e h) = ap (λ b. b || has_dollar s) e ∙ no_dollars h

word_extent : {s : List ℕ} → AreWordBytes s → (y : List ℕ) → begins_with_run y ≡ false → extent false ends_run 0 (s ++ y) ≡ length s
word_extent no_word_bytes [] n = refl
word_extent no_word_bytes (d ∷ y) n = ap (λ b. cond (not b) 0 (suc (extent false ends_run (pred (length (item_bytes (first_item false d y)))) y))) n
word_extent (next_word_byte {c = c} {s = s} r e h) y n =
    ap (λ b. cond (not b) 0 (suc (extent false ends_run (pred (length (item_bytes (first_item false c (s ++ y))))) (s ++ y)))) r
    ∙ ap (λ i. suc (extent false ends_run (pred (length (item_bytes i))) (s ++ y))) (byte_first false c (s ++ y) e refl)
    ∙ ap suc (word_extent h y n)

pub word_first : (c : ℕ) (s y : List ℕ) → AreWordBytes (c ∷ s) → is_run_byte c ≡ true → begins_with_run y ≡ false → first_token c (s ++ y) ≡ run (c ∷ s)
word_first c s y h r n =
    let z = s ++ y in
    let as_run = run_token (take (extent false ends_run 0 (c ∷ z)) (c ∷ z)) in
    let as_quoted = cond (c == 34 || (c == 39)) (quoted_token (extent true (λ d. d == c) 0 z) c z) (other (c ∷ [])) in
    ap (λ b. cond b (trivia (c ∷ [])) (cond (c == 35) (trivia (c ∷ z)) (cond (is_run_byte c) as_run as_quoted))) (not_white c r)
    ∙ ap (λ b. cond b (trivia (c ∷ z)) (cond (is_run_byte c) as_run as_quoted)) (other_byte c 35 is_run_byte r refl)
    ∙ ap (λ b. cond b as_run as_quoted) r
    ∙ ap (λ k. run_token (take k (c ∷ z))) (word_extent h y n)
    ∙ ap (λ s. run_token s) (take-append_seam (c ∷ s) y)
    ∙ ap (λ b. cond b (broken (c ∷ s)) (run (c ∷ s))) (no_unterminated (plain_items false (c ∷ s) (no_dollars h)))

pub first_word : {c : ℕ} {s : List ℕ} → AreWordBytes (c ∷ s) → is_run_byte c ≡ true
first_word (next_word_byte r e h) = r

word_kept : (c : ℕ) (s y : List ℕ) → AreWordBytes (c ∷ s) → begins_with_run y ≡ false → IsKept y → IsKept ((c ∷ s) ++ y)
word_kept c s y h n k = kept_front c (s ++ y) s y (run (c ∷ s)) (word_first c s y h (first_word h) n) refl refl (run_kept (c ∷ s) (no_dollars h)) k

bare_words : (s : List ℕ) → list_all is_bare_byte s ≡ true → AreWordBytes s
bare_words [] e = no_word_bytes
bare_words (c ∷ s) e =
    let word : is_word_byte c ≡ true = first_so (is_word_byte c) (not (c == 46 || (c == 47))) (first_so (is_bare_byte c) (list_all is_bare_byte s) e) in
    let in_run : is_run_byte c ≡ true = ap (λ b. b || (c == 36)) word in
    next_word_byte in_run (other_byte c 36 is_word_byte word refl) (bare_words s (second_so (is_bare_byte c) (list_all is_bare_byte s) e))

-- quoted texts
pub quoted_first : (q : ℕ) (s y : List ℕ) → (q == q) ≡ true → (92 == q) ≡ false → IsQuotedText q s → quoted_token (extent true (λ d. d == q) 0 (s ++ q ∷ y)) q
    (s ++ q ∷ y) ≡ quoted q s
quoted_first q s y same other_quote h =
    let z = s ++ q ∷ y in
    let less : length s < length z = omega (arith, length-append s (q ∷ y)) in
    ap (λ n. quoted_token n q z) (body_extent q same other_quote h y)
    ∙ ap (λ t. cond (list_any is_unterminated (items true 0 t)) (broken (q ∷ z)) (cond (nat_lt (length s) (length z)) (quoted q t) (other (q ∷ z))))
    (take-append_seam s (q ∷ y))
    ∙ ap (λ b. cond b (broken (q ∷ z)) (cond (nat_lt (length s) (length z)) (quoted q s) (other (q ∷ z)))) (no_unterminated (body_items h))
    ∙ ap (λ b. cond b (quoted q s) (other (q ∷ z))) (lt-ltb (length s) (length z) less)

quoted_kept : {q : ℕ} → IsQuote q → (s y : List ℕ) → IsQuotedText q s → IsKept y → IsKept ((q ∷ (s ++ q ∷ [])) ++ y)
quoted_kept double_quote s y h k =
    subst (λ z. IsKept (34 ∷ z)) (sym (append_assoc s (34 ∷ []) y))
    (kept_front 34 (s ++ 34 ∷ y) (s ++ 34 ∷ []) y (quoted 34 s) (quoted_first 34 s y refl refl h) refl (sym (append_assoc s (34 ∷ []) y))
    (all_kept (body_items h)) k)
quoted_kept single_quote s y h k =
    subst (λ z. IsKept (39 ∷ z)) (sym (append_assoc s (39 ∷ []) y))
    (kept_front 39 (s ++ 39 ∷ y) (s ++ 39 ∷ []) y (quoted 39 s) (quoted_first 39 s y refl refl h) refl (sym (append_assoc s (39 ∷ []) y))
    (all_kept (body_items h)) k)

-- a run without references and other `$` has none
row_without_dollars : {s : List ℕ} {is : List Item} → IsRow s is → list_any is_plain_dollar is ≡ false → list_any is_reference is ≡ false
    → list_any is_unterminated is ≡ false → has_dollar s ≡ false
row_without_dollars no_items p r u = refl
row_without_dollars (then_byte {c = c} {s = s} {is = is} e h) p r u =
    ap (λ b. b || has_dollar s) (neither_first (c == 36) (list_any is_plain_dollar is) p) ∙ row_without_dollars h
    (neither_second (c == 36) (list_any is_plain_dollar is) p) r u
row_without_dollars (then_reference e h) p r u = let z : ⊥ = cc in absurd z
row_without_dollars then_unterminated p r u = let z : ⊥ = cc in absurd z

-- what is written in front of a text that has nothing to expand
record IsWrittenFront (c : ℕ) (x : WrittenToken) (y : List ℕ) : Type 0 where
  kept : IsKept (x.bytes ++ y)
  front : is_run_byte c ≡ false → begins_with_run (x.bytes ++ y) ≡ false

-- the text after a token, and what is written of it
record IsAfter (rest y : List ℕ) : Type 0 where
  kept : IsKept y
  front : begins_with_run rest ≡ false → begins_with_run y ≡ false
  none : rest ≡ [] → y ≡ []

trivia_written : (c : ℕ) (y : List ℕ) → IsKept y → IsWrittenFront c (token_of_text []) y
trivia_written c y k = record { kept = k; front = λ r. refl }

run_front : {A : Type 0} (c : ℕ) → is_run_byte c ≡ true → is_run_byte c ≡ false → A
run_front c r n = let z : true ≡ false = sym r ∙ n in let y : ⊥ = cc in absurd y

text_written : (c : ℕ) (text y : List ℕ) → is_run_byte c ≡ true → IsKept y → begins_with_run y ≡ false → IsWrittenFront c (token_of_text text) y
text_written c [] y r k n = trivia_written c y k
text_written c (d ∷ s) y r k n = by_tests (list_all is_bare_byte (d ∷ s)) (is_keyword (d ∷ s)) refl
  where
    in_quotes : IsWrittenFront c (written_as Quoted (in_quotes_of 34 (d ∷ s)) (d ∷ s)) y
    in_quotes = record { kept = quoted_kept double_quote (escaped_text 34 (d ∷ s)) y (escaped_is_quoted_text 34 (d ∷ s)) k; front = λ m. run_front c r m }

    by_tests : (a b : Bool) → list_all is_bare_byte (d ∷ s) ≡ a → IsWrittenFront c
        (cond (a && not b) (written_as Word (d ∷ s) (d ∷ s)) (written_as Quoted (in_quotes_of 34 (d ∷ s)) (d ∷ s))) y
    by_tests true false e = record { kept = word_kept d s y (bare_words (d ∷ s) e) n k; front = λ m. run_front c r m }
    by_tests true true e = in_quotes
    by_tests false b e = in_quotes

value_written : (c : ℕ) (v : Value) (y : List ℕ) → is_run_byte c ≡ true → is_unknown (token_of_value v) ≡ false → IsKept y → begins_with_run y ≡ false
    → IsWrittenFront c (token_of_value v) y
value_written c None y r u k n = let z : ⊥ = cc in absurd z
value_written c (Some text) y r u k n = text_written c text y r k n

module _ (w : World) (at : Place) (b : Bindings) where
  -- a token that is written, and not left to the reader with a `$`
  abbrev Writes : LineToken → WrittenToken → Type 0
  Writes t x = ending_in w (written_token at b t) ≡ returned x

  run_written : (c : ℕ) (r y : List ℕ) (x : WrittenToken) → is_run_byte c ≡ true → list_any is_unterminated (items false 0 (c ∷ r)) ≡ false
      → (has_dollar (c ∷ r) ≡ false → AreWordBytes (c ∷ r)) → Writes (run (c ∷ r)) x
      → is_unknown x ≡ false → is_left_with_dollar x ≡ false → IsKept y → begins_with_run y ≡ false → IsWrittenFront c x y
  run_written c r y x h unterminated words e u l k n = by_tests (list_any is_plain_dollar (items false 0 (c ∷ r)))
      (list_any is_reference (items false 0 (c ∷ r))) refl refl e
    where
      s : List ℕ
      s = c ∷ r

      left : has_dollar s ≡ false → list_any is_plain_dollar (items false 0 s) ≡ true → ⊥
      left d p = let z : true ≡ false = sym p ∙ no_plain_dollar (plain_items false s d) in cc

      by_tests : (p q : Bool) → list_any is_plain_dollar (items false 0 s) ≡ p → list_any is_reference (items false 0 s) ≡ q
          → ending_in w (elim p as (λ z. Program WrittenToken) [
            | true ↦ returns (written_as Other s [])
            | false ↦ elim q [ true ↦ text_value at b s >>= λ v. returns (token_of_value v) | false ↦ returns (written_as Word s s) ]
          ]) ≡ returned x
          → IsWrittenFront c x y
      by_tests true q hp hq e =
          absurd (left (subst (λ (z : WrittenToken). is_left_with_dollar z ≡ false) (sym (same_return (written_as Other s []) x e)) l) hp)
      by_tests false false hp hq e =
          subst (λ z. IsWrittenFront c z y) (same_return (written_as Word s s) x e)
          (record { kept = word_kept c r y (words (row_without_dollars (is_row s) hp hq unterminated)) n k; front = λ m. run_front c h m })
      by_tests false true hp hq e =
          let (v, ev, e2) = split_return w (text_value at b s) (λ v. returns (token_of_value v)) x e in
          let same : token_of_value v ≡ x = same_return (token_of_value v) x e2 in
          subst (λ z. IsWrittenFront c z y) same (value_written c v y h (subst (λ z. is_unknown z ≡ false) (sym same) u) k n)

  -- a token is written in front of what is written of those after it
  token_written : (c : ℕ) (s : List ℕ) (t : LineToken) (rest y : List ℕ) (x : WrittenToken) → IsCut c s t rest → Writes t x → is_unknown x ≡ false
      → is_left_with_dollar x ≡ false → IsAfter rest y → IsWrittenFront c x y
  token_written c s (trivia z) rest y x (cut_white h) e u l a =
      subst (λ z. IsWrittenFront c z y) (same_return (written_as Trivia (c ∷ []) []) x e)
      (record {
        kept = kept_front c y [] y (trivia (c ∷ []))
            (ap (λ b. cond b (trivia (c ∷ [])) (cond (c == 35) (trivia (c ∷ y))
            (cond (is_run_byte c) (run_token (take (extent false ends_run 0 (c ∷ y)) (c ∷ y)))
            (cond (c == 34 || (c == 39)) (quoted_token (extent true (λ d. d == c) 0 y) c y) (other (c ∷ [])))))) h) refl refl refl a.kept;
        front = λ m. m;
      })
  token_written c s (trivia z) rest y x (cut_comment h) e u l a =
      let none : y ≡ [] = a.none refl in
      subst (λ z. IsWrittenFront c z y) (same_return (written_as Trivia (c ∷ s) []) x e)
      (record {
        kept = subst (λ z. IsKept (c ∷ (s ++ z))) (sym none) (kept_front c (s ++ []) s [] (trivia (c ∷ s))
            (ap (λ z. first_token c z) (append-nil s) ∙ h) refl refl refl refl);
        front = λ m. m;
      })
  token_written c s (run z) rest y x (cut_run {r = r} h unterminated words ends) e u l a = run_written c r y x h unterminated words e u l a.kept (a.front ends)
  token_written c s (broken z) rest y x cut_broken e u l a = let z : ⊥ = cc in absurd z
  token_written c s (quoted q z) rest y x (cut_quoted {inside = inside} quote h) e u l a =
      let (body, eb, e2) = split_return w (written_items at b c (items true 0 inside)) (λ body. returns (token_of_quoted_text c body)) x e in
      subst (λ z. IsWrittenFront c z y) (same_return (token_of_quoted_text c body) x e2)
      (record { kept = quoted_kept quote body.bytes y (inside_written w at b c h body eb) a.kept; front = λ m. m })
  token_written c s (other z) rest y x (cut_open h) e u l a =
      let none : y ≡ [] = a.none refl in
      subst (λ z. IsWrittenFront c z y) (same_return (written_as Other (c ∷ s) []) x e)
      (record {
        kept = subst (λ z. IsKept (c ∷ (s ++ z))) (sym none) (kept_front c (s ++ []) s [] (other (c ∷ s))
            (ap (λ z. first_token c z) (append-nil s) ∙ h) refl refl refl refl);
        front = λ m. m;
      })
  token_written c s (other z) rest y x (cut_other white comment in_run quote) e u l a =
      let as_run = run_token (take (extent false ends_run 0 (c ∷ y)) (c ∷ y)) in
      let as_quoted = quoted_token (extent true (λ d. d == c) 0 y) c y in
      subst (λ z. IsWrittenFront c z y) (same_return (written_as Other (c ∷ []) []) x e)
      (record {
        kept = kept_front c y [] y (other (c ∷ []))
            (ap (λ b. cond b (trivia (c ∷ [])) (cond (c == 35) (trivia (c ∷ y))
            (cond (is_run_byte c) as_run (cond (c == 34 || (c == 39)) as_quoted (other (c ∷ [])))))) white
            ∙ ap (λ b. cond b (trivia (c ∷ y)) (cond (is_run_byte c) as_run (cond (c == 34 || (c == 39)) as_quoted (other (c ∷ []))))) comment
            ∙ ap (λ b. cond b as_run (cond (c == 34 || (c == 39)) as_quoted (other (c ∷ [])))) in_run
            ∙ ap (λ b. cond b as_quoted (other (c ∷ []))) quote) refl refl refl a.kept;
        front = λ m. m;
      })

  -- tokens with one more at their front
  with_token_parts : (x : WrittenToken) (content : LineContent) (ts : List WrittenToken) → with_token x content ≡ tokens ts
      → (us : List WrittenToken) × (content ≡ tokens us) × (x ∷ us ≡ ts)
  with_token_parts x (tokens us) ts e = let p : x ∷ us ≡ ts = cc in (us, refl, p)
  with_token_parts x (assigns name a) ts e = let z : ⊥ = cc in absurd z

  abbrev Content : Program LineContent → List WrittenToken → Type 0
  Content p ts = ending_in w p ≡ returned (tokens ts)

  -- tokens that are known, and of which none is left to the reader with a `$`
  record AreSettled (ts : List WrittenToken) : Type 0 where
    known : list_any is_unknown ts ≡ false
    left : list_any is_left_with_dollar ts ≡ false

  -- what is written of tokens after a token
  after_token : (c : ℕ) (s y : List ℕ) (x : WrittenToken) → IsWrittenFront c x y → IsAfter (c ∷ s) (x.bytes ++ y)
  after_token c s y x f = record { kept = f.kept; front = f.front; none = λ e. let z : ⊥ = cc in absurd z }

  next_written : (c : ℕ) (s rest : List ℕ) (x : WrittenToken) (p : Program LineContent) (ts : List WrittenToken)
      → ((us : List WrittenToken) → Content p us → AreSettled us → IsAfter rest (line_bytes us))
      → ((y : List ℕ) → is_unknown x ≡ false → is_left_with_dollar x ≡ false → IsAfter rest y → IsWrittenFront c x y)
      → Content (p >>= λ more. returns (with_token x more)) ts → AreSettled ts → IsAfter (c ∷ s) (line_bytes ts)
  next_written c s rest x p ts ih f e settled =
      let (content, ec, e2) = split_return w p (λ more. returns (with_token x more)) (tokens ts) e in
      let (us, eu, same) = with_token_parts x content ts (same_return (with_token x content) (tokens ts) e2) in
      let again : AreSettled (x ∷ us) = subst (λ z. AreSettled z) (sym same) settled in
      let others : AreSettled us = record {
        known = neither_second (is_unknown x) (list_any is_unknown us) again.known;
        left = neither_second (is_left_with_dollar x) (list_any is_left_with_dollar us) again.left;
      } in
      subst (λ z. IsAfter (c ∷ s) (line_bytes z)) same
      (after_token c s (line_bytes us) x (f (line_bytes us) (neither_first (is_unknown x) (list_any is_unknown us) again.known)
      (neither_first (is_left_with_dollar x) (list_any is_left_with_dollar us) again.left) (ih us (subst (λ z. ending_in w p ≡ returned z) eu ec) others)))

  or_trivia : (c : ℕ) (s rest : List ℕ) (p : Program LineContent) (a : AssignedText) (v : Value) (ts : List WrittenToken)
      → ((us : List WrittenToken) → Content p us → AreSettled us → IsAfter rest (line_bytes us))
      → Content (assignment_or (p >>= λ more. returns (with_token (token_of_text []) more)) a v) ts → AreSettled ts → IsAfter (c ∷ s) (line_bytes ts)
  or_trivia c s rest p a None ts ih e settled = let z : ⊥ = cc in absurd z
  or_trivia c s rest p a (Some []) ts ih e settled = next_written c s rest (token_of_text []) p ts ih (λ y u l k. trivia_written c y k.kept) e settled
  or_trivia c s rest p a (Some (d ∷ name)) ts ih e settled = let z : ⊥ = cc in absurd z

  content_written_again : {s : List ℕ} {row : List LineToken} → AreCuts s row → (may_assign : Bool) (ts : List WrittenToken)
      → Content (line_content at b may_assign row) ts → AreSettled ts → IsAfter s (line_bytes ts)
  content_written_again no_cuts may_assign ts e settled = let p : [] ≡ ts = cc in
      subst (λ z. IsAfter [] (line_bytes z)) p (record { kept = refl; front = λ n. refl; none = λ n. refl })
  content_written_again (next_cut {c = c} {s = s} {rest = rest} {t = t} {ts = row} cut more) may_assign ts e settled =
      by_name (λ m us eu su. content_written_again more m us eu su) (assignment_at may_assign t row) e
    where
      goes_on : (x : WrittenToken) → Writes t x → (m : Bool) → ((us : List WrittenToken) → Content (line_content at b m row) us → AreSettled us
          → IsAfter rest (line_bytes us)) → (o : Bool)
          → Content (elim o as (λ z. Program LineContent) [ true ↦ stops | false ↦ line_content at b m row >>= λ more. returns (with_token x more) ]) ts
          → IsAfter (c ∷ s) (line_bytes ts)
      goes_on x ex m ih true e = let z : ⊥ = cc in absurd z
      goes_on x ex m ih false e = next_written c s rest x (line_content at b m row) ts ih (λ y u l k. token_written c s t rest y x cut ex u l k) e settled

      by_name : ((m : Bool) (us : List WrittenToken) → Content (line_content at b m row) us → AreSettled us → IsAfter rest (line_bytes us))
          → (a : Option AssignedText)
          → Content (elim a as (λ z. Program LineContent) [
            | Some a ↦ run_value at b (token_bytes t) >>= assignment_or (line_content at b true row >>= λ rest. returns (with_token (token_of_text []) rest)) a
            | None ↦ written_token at b t >>= λ x. elim (is_open_front may_assign x row) as (λ z. Program LineContent)
                [ true ↦ stops | false ↦ line_content at b (may_assign && is_trivia x) row >>= λ rest. returns (with_token x rest) ]
          ]) ts → IsAfter (c ∷ s) (line_bytes ts)
      by_name ih None e =
          let (x, ex, e2) = split_return w (written_token at b t) (λ x. elim (is_open_front may_assign x row) as (λ z. Program LineContent)
          [ true ↦ stops | false ↦ line_content at b (may_assign && is_trivia x) row >>= λ rest. returns (with_token x rest) ]) (tokens ts) e in
          goes_on x ex (may_assign && is_trivia x) (ih (may_assign && is_trivia x)) (is_open_front may_assign x row) e2
      by_name ih (Some a) e =
          let (v, ev, e2) = split_return w (run_value at b (token_bytes t))
          (assignment_or (line_content at b true row >>= λ rest. returns (with_token (token_of_text []) rest)) a) (tokens ts) e in
          or_trivia c s rest (line_content at b true row) a v ts (ih true) e2 settled

pub nothing_is_left : NothingIsLeftToExpand
nothing_is_left w at b text ts e known left =
    let after : IsAfter text (line_bytes ts) = content_written_again w at b (cuts_of text) true ts e (record { known = known; left = left }) in after.kept

or_true : (a b : Bool) → b ≡ true → (a || b) ≡ true
or_true true b e = refl
or_true false b e = e

pub written_lines_stay : WrittenLinesStay
written_lines_stay w at b text ts e known left asks name form sub again continued s =
    let new = line_bytes ts in
    let free = list_all is_kept_token (line_tokens 0 new) in
    let plain = is_plain_form (form_of (tokens_as_they_are new)) in
    let one = is_one_of no_paths (plain_path (tokens_as_they_are new)) in
    plain_lines_stay sub again continued new s
    (or_true (is_copied new) (is_none (environment_asked new) && (free && (not (is_assignment (line_tokens 0 new)) && (plain || one))))
    (ap (λ o. is_none o && (free && (not (is_assignment (line_tokens 0 new)) && (plain || one)))) asks
    ∙ ap (λ x. x && (not (is_assignment (line_tokens 0 new)) && (plain || one))) (nothing_is_left w at b text ts e known left)
    ∙ ap (λ x. not x && (plain || one)) name ∙ ap (λ x. x || one) form))

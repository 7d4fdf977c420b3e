-- Tokens that have nothing to expand are written as they are.
use Rattle.kc_macros_model.proofs.Common.{◌≡◌, ℕ, zero, suc, ◌≤◌, Bool, true, false, ◌&&◌, ◌||◌, cond, List, [], ◌∷◌, ◌++◌, length, take, drop, map, Option, Some, None, refl, sym, ap, ◌∙◌, subst, arith, ◌==◌, pred, not, nat_lt, is_some, list_all, list_any, first_so, second_so, eqb-true}
use Rattle.kc_macros_model.proofs.Common.{take-append-drop, is_white_byte, Place, Program, returns, stops, ◌>>=◌, Item, byte, escaped, item_bytes, inside_length, reference_of, items, is_reference, is_plain_dollar, is_unterminated, Bindings, LineToken, trivia, run, quoted, other, broken, token_bytes}
use Rattle.kc_macros_model.proofs.Common.{extent, is_run_byte, run_token, quoted_token, first_token, bytes_of_tokens, Word, Other, WrittenToken, written_as, token_of_text, token_of_value, WrittenQuotedText, quoted_text_of, joined_quoted_texts, written_items, token_of_quoted_text, run_value, written_token, AssignedText}
use Rattle.kc_macros_model.proofs.Common.{LineContent, tokens, with_token, is_trivia, is_open_front, assignment_or, line_content, line_bytes, has_dollar, is_kept_token, token_as_it_is, is_assignment, is_in_list, is_unknown, source_words, help_words, is_word, without_trivia, is_undecided}
use Rattle.kc_macros_model.specs.Expansion.{text_value}
use Rattle.kc_macros_model.specs.Assignments.{assignment_to}
use Rattle.kc_macros_model.specs.PlainLines.{is_kept_item, LinesWithoutDollars, text_of_items}
use Rattle.kc_macros_model.proofs.CleanTexts.{neither_first, neither_second}
use Rattle.kc_macros_model.proofs.TokensOfLines.{IsInTokens, no_bytes, next_token, is_in_tokens}
use Rattle.kc_macros_model.proofs.CleanTexts.{neither_second}
use Rattle.kc_macros_model.proofs.FormMatches.{second_of_and}

pub not_so : (b : Bool) → not b ≡ true → b ≡ false
not_so true e = absurd (let z : ⊥ = cc in z)
not_so false e = refl

-- the items of a text are only bytes other than `$`, and backslashes with the byte after them
pub data ArePlainItems : List ℕ → List Item → Type 0 where
  plain_none : ArePlainItems [] []
  plain_byte : {c : ℕ} {s : List ℕ} {is : List Item} → (c == 36) ≡ false → ArePlainItems s is → ArePlainItems (c ∷ s) (byte c ∷ is)
  plain_escaped : {c d : ℕ} {s : List ℕ} {is : List Item} → c ≡ 92 → ArePlainItems s is → ArePlainItems (c ∷ d ∷ s) (escaped d ∷ is)

pub and_false : (a b : Bool) → a ≡ false → (a && b) ≡ false
and_false true b e = let z : ⊥ = cc in absurd z
and_false false b e = refl

items_within : (n : ℕ) (q : Bool) (s : List ℕ) → length s ≤ n → has_dollar s ≡ false → ArePlainItems s (items q 0 s)
items_within n q [] h e = plain_none
items_within zero q (c ∷ s) h e = absurd (omega (arith, h))
items_within (suc n) q (c ∷ []) h e = plain_byte (neither_first (c == 36) false e) plain_none
items_within (suc n) q (c ∷ d ∷ s) h e =
    subst (λ b. ArePlainItems (c ∷ d ∷ s) (from b)) (sym (and_false (c == 36) (d == 40) (neither_first (c == 36) (has_dollar (d ∷ s)) e)))
    (by_escape (items_within n q (d ∷ s) (omega (arith, h)) (neither_second (c == 36) (has_dollar (d ∷ s)) e))
    (items_within n q s (omega (arith, h)) (neither_second (d == 36) (has_dollar s) (neither_second (c == 36) (has_dollar (d ∷ s)) e)))
    (q && (c == 92)) refl)
  where
    from : Bool → List Item
    from b = let i = cond b (reference_of s (inside_length 0 s)) (cond (q && (c == 92)) (escaped d) (byte c)) in
        i ∷ items q (pred (length (item_bytes i))) (d ∷ s)

    plain_from : Bool → List Item
    plain_from p = let i = cond p (escaped d) (byte c) in i ∷ items q (pred (length (item_bytes i))) (d ∷ s)

    by_escape : ArePlainItems (d ∷ s) (items q 0 (d ∷ s)) → ArePlainItems s (items q 0 s) → (p : Bool) → (q && (c == 92)) ≡ p
        → ArePlainItems (c ∷ d ∷ s) (plain_from (q && (c == 92)))
    by_escape r1 r2 true e2 = subst (λ p. ArePlainItems (c ∷ d ∷ s) (plain_from p)) (sym e2) (plain_escaped (eqb-true c 92 (second_so q (c == 92) e2)) r2)
    by_escape r1 r2 false e2 = subst (λ p. ArePlainItems (c ∷ d ∷ s) (plain_from p)) (sym e2) (plain_byte (neither_first (c == 36) (has_dollar (d ∷ s)) e) r1)

-- the items of a text without `$` are only bytes, and backslashes with the byte after them
pub plain_items : (q : Bool) (s : List ℕ) → has_dollar s ≡ false → ArePlainItems s (items q 0 s)
plain_items q s e = items_within (length s) q s (omega arith) e

-- the items of a text between quotes that are all kept are only bytes other than `$`, and backslashes with the byte after them
kept_within : (n : ℕ) (s : List ℕ) → length s ≤ n → list_all is_kept_item (items true 0 s) ≡ true → ArePlainItems s (items true 0 s)
kept_within n [] h e = plain_none
kept_within zero (c ∷ s) h e = absurd (omega (arith, h))
kept_within (suc n) (c ∷ []) h e = plain_byte (not_so (c == 36) (first_so (not (c == 36)) true e)) plain_none
kept_within (suc n) (c ∷ d ∷ s) h e = by_tests (kept_within n (d ∷ s) (omega (arith, h))) (kept_within n s (omega (arith, h))) (c == 36 && (d == 40))
    (c == 92) refl e
  where
    front : Bool → Bool → List Item
    front x y = let i = cond x (reference_of s (inside_length 0 s)) (cond y (escaped d) (byte c)) in i ∷ items true (pred (length (item_bytes i))) (d ∷ s)

    not_reference : (r : Option ℕ) (more : Bool) → (is_kept_item (reference_of s r) && more) ≡ true → ⊥
    not_reference None more e = cc
    not_reference (Some n) more e = cc

    by_tests : (list_all is_kept_item (items true 0 (d ∷ s)) ≡ true → ArePlainItems (d ∷ s) (items true 0 (d ∷ s)))
        → (list_all is_kept_item (items true 0 s) ≡ true → ArePlainItems s (items true 0 s))
        → (x y : Bool) → (c == 92) ≡ y → list_all is_kept_item (front x y) ≡ true → ArePlainItems (c ∷ d ∷ s) (front x y)
    by_tests ih1 ih2 true y k e =
        absurd (not_reference (inside_length 0 s) (list_all is_kept_item
        (items true (pred (length (item_bytes (reference_of s (inside_length 0 s))))) (d ∷ s))) e)
    by_tests ih1 ih2 false true k e = plain_escaped (eqb-true c 92 k) (ih2 e)
    by_tests ih1 ih2 false false k e = plain_byte (not_so (c == 36) (first_so (not (c == 36)) (list_all is_kept_item (items true 0 (d ∷ s))) e))
        (ih1 (second_so (not (c == 36)) (list_all is_kept_item (items true 0 (d ∷ s))) e))

pub kept_items : (s : List ℕ) → list_all is_kept_item (items true 0 s) ≡ true → ArePlainItems s (items true 0 s)
kept_items s e = kept_within (length s) s (omega arith) e

pub no_reference : {s : List ℕ} {is : List Item} → ArePlainItems s is → list_any is_reference is ≡ false
no_reference plain_none = refl
no_reference (plain_byte e r) = no_reference r
no_reference (plain_escaped e r) = no_reference r

pub no_plain_dollar : {s : List ℕ} {is : List Item} → ArePlainItems s is → list_any is_plain_dollar is ≡ false
no_plain_dollar plain_none = refl
no_plain_dollar (plain_byte {is = is} e r) = ap (λ b. b || list_any is_plain_dollar is) e ∙ no_plain_dollar r
no_plain_dollar (plain_escaped e r) = no_plain_dollar r

pub no_unterminated : {s : List ℕ} {is : List Item} → ArePlainItems s is → list_any is_unterminated is ≡ false
no_unterminated plain_none = refl
no_unterminated (plain_byte e r) = no_unterminated r
no_unterminated (plain_escaped e r) = no_unterminated r

pub all_kept : {s : List ℕ} {is : List Item} → ArePlainItems s is → list_all is_kept_item is ≡ true
all_kept plain_none = refl
all_kept (plain_byte {is = is} e r) = ap (λ b. not b && list_all is_kept_item is) e ∙ all_kept r
all_kept (plain_escaped e r) = all_kept r

-- a run without `$` has nothing to expand
pub run_kept : (s : List ℕ) → has_dollar s ≡ false → is_kept_token (run s) ≡ true
run_kept s e =
    let p = plain_items false s e in
    ap (λ x. x || not (list_any is_reference (items false 0 s))) (no_plain_dollar p) ∙ ap (λ x. not x) (no_reference p)

run_whole : (s : List ℕ) → has_dollar s ≡ false → is_kept_token (run_token s) ≡ true
run_whole s e = ap (λ x. is_kept_token (cond x (broken s) (run s))) (no_unterminated (plain_items false s e)) ∙ run_kept s e

dollar_left : (x y : List ℕ) → has_dollar (x ++ y) ≡ false → has_dollar x ≡ false
dollar_left [] y e = refl
dollar_left (c ∷ x) y e = by_test (dollar_left x y) (c == 36) e
  where
    by_test : (has_dollar (x ++ y) ≡ false → has_dollar x ≡ false) → (b : Bool) → (b || has_dollar (x ++ y)) ≡ false → (b || has_dollar x) ≡ false
    by_test ih true e = let z : ⊥ = cc in absurd z
    by_test ih false e = ih e

dollar_right : (x y : List ℕ) → has_dollar (x ++ y) ≡ false → has_dollar y ≡ false
dollar_right [] y e = e
dollar_right (c ∷ x) y e = dollar_right x y (neither_second (c == 36) (has_dollar (x ++ y)) e)

dollar_taken : (n : ℕ) (s : List ℕ) → has_dollar s ≡ false → has_dollar (take n s) ≡ false
dollar_taken n s e = dollar_left (take n s) (drop n s) (ap has_dollar (take-append-drop n s) ∙ e)

quoted_kept : (n quote : ℕ) (s : List ℕ) → has_dollar s ≡ false → is_kept_token (quoted_token n quote s) ≡ true
quoted_kept n quote s e =
    let p = plain_items true (take n s) (dollar_taken n s e) in
    ap (λ x. is_kept_token (cond x (broken (quote ∷ s)) (cond (nat_lt n (length s)) (quoted quote (take n s)) (other (quote ∷ s))))) (no_unterminated p)
    ∙ by_test (nat_lt n (length s)) (all_kept p)
  where
    by_test : (x : Bool) → list_all is_kept_item (items true 0 (take n s)) ≡ true → is_kept_token (cond x (quoted quote (take n s)) (other (quote ∷ s))) ≡ true
    by_test true h = h
    by_test false h = refl

first_kept : (c : ℕ) (s : List ℕ) → has_dollar (c ∷ s) ≡ false → is_kept_token (first_token c s) ≡ true
first_kept c s e = by_tests (is_white_byte c) (c == 35) (is_run_byte c) (c == 34 || (c == 39))
  where
    n : ℕ
    n = extent false (λ d. not (is_run_byte d)) 0 (c ∷ s)

    by_tests : (x y z u : Bool)
        → is_kept_token (cond x (trivia (c ∷ [])) (cond y (trivia (c ∷ s)) (cond z (run_token (take n (c ∷ s)))
        (cond u (quoted_token (extent true (λ d. d == c) 0 s) c s) (other (c ∷ [])))))) ≡ true
    by_tests true y z u = refl
    by_tests false true z u = refl
    by_tests false false true u = run_whole (take n (c ∷ s)) (dollar_taken n (c ∷ s) e)
    by_tests false false false true = quoted_kept (extent true (λ d. d == c) 0 s) c s (neither_second (c == 36) (has_dollar s) e)
    by_tests false false false false = refl

kept_in_row : {s : List ℕ} {ts : List LineToken} → IsInTokens s ts → has_dollar s ≡ false → list_all is_kept_token ts ≡ true
kept_in_row no_bytes e = refl
kept_in_row (next_token {c = c} {s = s} {rest = rest} {ts = ts} more begins parts r) e =
    ap (λ b. b && list_all is_kept_token ts) (first_kept c s e) ∙ kept_in_row r
    (dollar_right more rest (ap has_dollar (sym parts) ∙ neither_second (c == 36) (has_dollar s) e))

pub lines_without_dollars : LinesWithoutDollars
lines_without_dollars text e = kept_in_row (is_in_tokens text) e

-- the bytes of the written tokens of a line that has nothing to expand are the bytes of the line's tokens
pub bytes_as_they_are : (ts : List LineToken) → line_bytes (map token_as_it_is ts) ≡ bytes_of_tokens ts
bytes_as_they_are [] = refl
bytes_as_they_are (trivia s ∷ ts) = ap (λ x. s ++ x) (bytes_as_they_are ts)
bytes_as_they_are (run s ∷ ts) = by_test (list_any is_plain_dollar (items false 0 s)) (bytes_as_they_are ts)
  where
    by_test : (b : Bool) → line_bytes (map token_as_it_is ts) ≡ bytes_of_tokens ts → (cond b (written_as Other s []) (written_as Word s s)).bytes
        ++ line_bytes (map token_as_it_is ts) ≡ s ++ bytes_of_tokens ts
    by_test true h = ap (λ x. s ++ x) h
    by_test false h = ap (λ x. s ++ x) h
bytes_as_they_are (quoted quote s ∷ ts) = ap (λ x. (quote ∷ (s ++ quote ∷ [])) ++ x) (bytes_as_they_are ts)
bytes_as_they_are (other s ∷ ts) = ap (λ x. s ++ x) (bytes_as_they_are ts)
bytes_as_they_are (broken s ∷ ts) = ap (λ x. s ++ x) (bytes_as_they_are ts)

known_as_it_is : (t : LineToken) → is_unknown (token_as_it_is t) ≡ false
known_as_it_is (trivia s) = refl
known_as_it_is (run s) = by_test (list_any is_plain_dollar (items false 0 s))
  where
    by_test : (b : Bool) → is_unknown (cond b (written_as Other s []) (written_as Word s s)) ≡ false
    by_test true = refl
    by_test false = refl
known_as_it_is x = refl

none_unknown : (ts : List LineToken) → list_any is_unknown (without_trivia (map token_as_it_is ts)) ≡ false
none_unknown [] = refl
none_unknown (t ∷ ts) = by_trivia (is_trivia (token_as_it_is t)) (none_unknown ts)
  where
    rest : List WrittenToken
    rest = without_trivia (map token_as_it_is ts)

    by_trivia : (g : Bool) → list_any is_unknown rest ≡ false → list_any is_unknown (cond (not g) (token_as_it_is t ∷ rest) rest) ≡ false
    by_trivia true e = e
    by_trivia false e = ap (λ b. b || list_any is_unknown rest) (known_as_it_is t) ∙ e

decided : (ts : List WrittenToken) → list_any is_unknown ts ≡ false → is_undecided ts ≡ false
decided [] e = refl
decided (t ∷ ts) e =
    let begins = is_word t && (is_in_list t.bytes source_words || is_in_list t.bytes help_words) in
    ap (λ b. begins && b) (neither_second (is_unknown t) (list_any is_unknown ts) e) ∙ second_of_and begins

-- the form of a line that has nothing to expand is known
pub decided_as_they_are : (ts : List LineToken) → is_undecided (without_trivia (map token_as_it_is ts)) ≡ false
decided_as_they_are ts = decided (without_trivia (map token_as_it_is ts)) (none_unknown ts)

module _ (at : Place) (b : Bindings) where
  body_stays : (quote : ℕ) {s : List ℕ} {is : List Item} → ArePlainItems s is → written_items at b quote is ≡ returns (quoted_text_of s (text_of_items is))
  body_stays quote plain_none = refl
  body_stays quote (plain_byte {c = c} {is = is} e r) =
      ap (λ x. let p : Program WrittenQuotedText = returns (quoted_text_of (cond x (92 ∷ c ∷ []) (c ∷ [])) (c ∷ [])) in
      p >>= λ first. written_items at b quote is >>= λ rest. returns (joined_quoted_texts first rest)) e
      ∙ ap (λ (p : Program WrittenQuotedText). p >>= λ rest. returns (joined_quoted_texts (quoted_text_of (c ∷ []) (c ∷ [])) rest)) (body_stays quote r)
  body_stays quote (plain_escaped {c = c} {d = d} {s = s} {is = is} e r) =
      ap (λ (p : Program WrittenQuotedText). p >>= λ rest. returns (joined_quoted_texts (quoted_text_of (92 ∷ d ∷ []) (d ∷ [])) rest)) (body_stays quote r)
      ∙ ap (λ x. let p : Program WrittenQuotedText = returns (quoted_text_of (x ∷ d ∷ s) (d ∷ text_of_items is)) in p) (sym e)

  run_stays : (s : List ℕ) (x y : Bool) → (x || not y) ≡ true
      → (elim x as (λ z. Program WrittenToken) [
        | true ↦ returns (written_as Other s [])
        | false ↦
            elim y [ true ↦ text_value at b s >>= λ v. returns (token_of_value v) | false ↦ returns (written_as Word s s) ]
      ])
      ≡ returns (cond x (written_as Other s []) (written_as Word s s))
  run_stays s true y e = refl
  run_stays s false false e = refl
  run_stays s false true e = let z : ⊥ = cc in absurd z

  -- a token that has nothing to expand is written with its own bytes
  pub token_stays : (t : LineToken) → is_kept_token t ≡ true → written_token at b t ≡ returns (token_as_it_is t)
  token_stays (trivia s) e = refl
  token_stays (run s) e = run_stays s (list_any is_plain_dollar (items false 0 s)) (list_any is_reference (items false 0 s)) e
  token_stays (quoted quote s) e = ap (λ (p : Program WrittenQuotedText). p >>= λ body. returns (token_of_quoted_text quote body)) (body_stays quote (kept_items s e))
  token_stays (other s) e = refl
  token_stays (broken s) e = let z : ⊥ = cc in absurd z

  -- the content of a line from a token on, once it is written and where it is no name of an assignment
  abbrev content_after : Bool → List LineToken → WrittenToken → Program LineContent
  content_after m ts x = elim (is_open_front m x ts) as (λ z. Program LineContent) [
    | true ↦ stops
    | false ↦
        line_content at b (m && is_trivia x) ts >>= λ rest. returns (with_token x rest)
  ]

  tokens_stay_inside : (ts : List LineToken) → list_all is_kept_token ts ≡ true → line_content at b false ts ≡ returns (tokens (map token_as_it_is ts))
  tokens_stay_inside [] e = refl
  tokens_stay_inside (t ∷ ts) e =
      ap (λ (p : Program WrittenToken). p >>= content_after false ts) (token_stays t (first_so (is_kept_token t) (list_all is_kept_token ts) e))
      ∙ ap (λ (p : Program LineContent). p >>= λ rest. returns (with_token (token_as_it_is t) rest))
      (tokens_stay_inside ts (second_so (is_kept_token t) (list_all is_kept_token ts) e))

  no_name : (a : Option AssignedText) → is_some a ≡ false → a ≡ None
  no_name (Some a) e = let z : ⊥ = cc in absurd z
  no_name None e = refl

  -- a first token that is no trivia and no name
  first_stays : (t : LineToken) (ts : List LineToken) → is_open_front true (token_as_it_is t) ts ≡ false → is_trivia (token_as_it_is t) ≡ false
      → (is_kept_token t && list_all is_kept_token ts) ≡ true
      → is_some (assignment_to t ts) ≡ false → line_content at b true (t ∷ ts) ≡ returns (tokens (map token_as_it_is (t ∷ ts)))
  first_stays t ts closed solid e n =
      ap (λ a. elim a as (λ z. Program LineContent) [
        | Some a ↦ run_value at b (token_bytes t) >>= assignment_or (line_content at b true ts >>= λ rest. returns (with_token (token_of_text []) rest)) a
        | None ↦ written_token at b t >>= content_after true ts
      ]) (no_name (assignment_to t ts) n)
      ∙ ap (λ (p : Program WrittenToken). p >>= content_after true ts) (token_stays t (first_so (is_kept_token t) (list_all is_kept_token ts) e))
      ∙ ap (λ x. elim x as (λ z. Program LineContent) [
        | true ↦ stops
        | false ↦ line_content at b (true && is_trivia (token_as_it_is t)) ts >>= λ rest. returns
            (with_token (token_as_it_is t) rest)
      ]) closed
      ∙ ap (λ m. line_content at b m ts >>= λ rest. returns (with_token (token_as_it_is t) rest)) solid
      ∙ ap (λ (p : Program LineContent). p >>= λ rest. returns (with_token (token_as_it_is t) rest))
      (tokens_stay_inside ts (second_so (is_kept_token t) (list_all is_kept_token ts) e))

  -- the content of a line that has nothing to expand and is no assignment is the line's own tokens
  pub tokens_stay : (ts : List LineToken) → list_all is_kept_token ts ≡ true → is_assignment ts ≡ false
      → line_content at b true ts ≡ returns (tokens (map token_as_it_is ts))
  tokens_stay [] e n = refl
  tokens_stay (trivia s ∷ ts) e n = ap (λ (p : Program LineContent). p >>= λ rest. returns (with_token (token_as_it_is (trivia s)) rest)) (tokens_stay ts e n)
  tokens_stay (run s ∷ ts) e n = first_stays (run s) ts (closed (list_any is_plain_dollar (items false 0 s)))
      (solid (list_any is_plain_dollar (items false 0 s))) e n
    where
      closed : (x : Bool) → is_open_front true (cond x (written_as Other s []) (written_as Word s s)) ts ≡ false
      closed true = refl
      closed false = refl

      solid : (x : Bool) → is_trivia (cond x (written_as Other s []) (written_as Word s s)) ≡ false
      solid true = refl
      solid false = refl
  tokens_stay (quoted quote s ∷ ts) e n = first_stays (quoted quote s) ts refl refl e n
  tokens_stay (other s ∷ ts) e n = first_stays (other s) ts refl refl e n
  tokens_stay (broken s ∷ ts) e n = let z : ⊥ = cc in absurd z

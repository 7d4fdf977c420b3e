-- Lines without newlines, as they are written.
use Rattle.kc_macros_model.proofs.Common.{◌≡◌, ℕ, zero, suc, Bool, true, false, ◌&&◌, ◌||◌, cond, List, [], ◌∷◌, length, take, Option, Some, None, refl, ◌==◌, not, nat_lt, pred, option_map, list_all, list_any, prefix_len, is_white_byte, Item, byte, escaped, reference, unterminated, item_bytes}
use Rattle.kc_macros_model.proofs.Common.{inside_length, reference_of, first_item, items, is_unterminated, Value, LineToken, trivia, run, quoted, other, broken, token_bytes, extent, is_run_byte, run_token, quoted_token, first_token, line_tokens, bytes_of_tokens, Word, Quoted, is_bare_byte, is_keyword}
use Rattle.kc_macros_model.proofs.Common.{escaped_text, in_quotes_of, WrittenToken, written_as, token_of_text, token_of_value, SetsNow, Appends, Sets, AssignedText, without_front, assignment_at}
use Rattle.kc_macros_model.specs.Assignments.{assigned, is_blank_byte, operator_at}
use Rattle.kc_macros_model.proofs.CleanTexts.{IsClean, clean, clean_none, clean_cons, clean_first, clean_rest, clean_append, clean_take, clean_drop, IsCleanValue, unknown_clean, text_clean}

-- the bytes of an item have no newline
pub data IsCleanItem : Item → Type 0 where
  clean_byte : {c : ℕ} → (c == 10) ≡ false → IsCleanItem (byte c)
  clean_escaped : {c : ℕ} → (c == 10) ≡ false → IsCleanItem (escaped c)
  clean_reference : {inside : List ℕ} → IsClean inside → IsCleanItem (reference inside)
  clean_unterminated : {s : List ℕ} → IsCleanItem (unterminated s)

pub data AreCleanItems : List Item → Type 0 where
  no_items : AreCleanItems []
  next_item : {i : Item} {is : List Item} → IsCleanItem i → AreCleanItems is → AreCleanItems (i ∷ is)

reference_clean : (s : List ℕ) (n : Option ℕ) → IsClean s → IsCleanItem (reference_of s n)
reference_clean s None h = clean_unterminated
reference_clean s (Some n) h = clean_reference (clean_take n s h)

first_item_clean : (q : Bool) (c : ℕ) (s : List ℕ) → IsClean (c ∷ s) → IsCleanItem (first_item q c s)
first_item_clean q c [] h = clean_byte (clean_first h)
first_item_clean q c (d ∷ s) h = by_tests (c == 36 && (d == 40)) (q && (c == 92))
  where
    by_tests : (x y : Bool) → IsCleanItem (cond x (reference_of s (inside_length 0 s)) (cond y (escaped d) (byte c)))
    by_tests true y = reference_clean s (inside_length 0 s) (clean_rest (clean_rest h))
    by_tests false true = clean_escaped (clean_first (clean_rest h))
    by_tests false false = clean_byte (clean_first h)

pub items_clean : (q : Bool) (skip : ℕ) (s : List ℕ) → IsClean s → AreCleanItems (items q skip s)
items_clean q zero [] h = no_items
items_clean q (suc skip) [] h = no_items
items_clean q (suc skip) (c ∷ s) h = items_clean q skip s (clean_rest h)
items_clean q zero (c ∷ s) h = next_item (first_item_clean q c s h) (items_clean q (pred (length (item_bytes (first_item q c s)))) s (clean_rest h))

-- no token of a logical line has a newline among its bytes
pub data AreCleanTokens : List LineToken → Type 0 where
  no_tokens : AreCleanTokens []
  next_token : {t : LineToken} {ts : List LineToken} → IsClean (token_bytes t) → AreCleanTokens ts → AreCleanTokens (t ∷ ts)

run_token_clean : (s : List ℕ) → IsClean s → IsClean (token_bytes (run_token s))
run_token_clean s h = by_test (list_any is_unterminated (items false 0 s))
  where
    by_test : (x : Bool) → IsClean (token_bytes (cond x (broken s) (run s)))
    by_test true = h
    by_test false = h

quoted_token_clean : (n quote : ℕ) (s : List ℕ) → IsClean (quote ∷ s) → IsClean (token_bytes (quoted_token n quote s))
quoted_token_clean n quote s h = by_tests (list_any is_unterminated (items true 0 (take n s))) (nat_lt n (length s))
  where
    by_tests : (x y : Bool) → IsClean (token_bytes (cond x (broken (quote ∷ s)) (cond y (quoted quote (take n s)) (other (quote ∷ s)))))
    by_tests true y = h
    by_tests false true = clean_cons (clean_first h) (clean_append (take n s) (quote ∷ []) (clean_take n s (clean_rest h))
        (clean_cons (clean_first h) clean_none))
    by_tests false false = h

first_token_clean : (c : ℕ) (s : List ℕ) → IsClean (c ∷ s) → IsClean (token_bytes (first_token c s))
first_token_clean c s h = by_tests (is_white_byte c) (c == 35) (is_run_byte c) (c == 34 || (c == 39))
  where
    alone : IsClean (c ∷ [])
    alone = clean_cons (clean_first h) clean_none

    run_len : ℕ
    run_len = extent false (λ d. not (is_run_byte d)) 0 (c ∷ s)

    by_tests : (x y z u : Bool)
        → IsClean (token_bytes (cond x (trivia (c ∷ [])) (cond y (trivia (c ∷ s))
        (cond z (run_token (take run_len (c ∷ s))) (cond u (quoted_token (extent true (λ d. d == c) 0 s) c s) (other (c ∷ [])))))))
    by_tests true y z u = alone
    by_tests false true z u = h
    by_tests false false true u = run_token_clean (take run_len (c ∷ s)) (clean_take run_len (c ∷ s) h)
    by_tests false false false true = quoted_token_clean (extent true (λ d. d == c) 0 s) c s h
    by_tests false false false false = alone

pub tokens_clean : (skip : ℕ) (s : List ℕ) → IsClean s → AreCleanTokens (line_tokens skip s)
tokens_clean zero [] h = no_tokens
tokens_clean (suc skip) [] h = no_tokens
tokens_clean (suc skip) (c ∷ s) h = tokens_clean skip s (clean_rest h)
tokens_clean zero (c ∷ s) h = next_token (first_token_clean c s h) (tokens_clean (pred (length (token_bytes (first_token c s)))) s (clean_rest h))

row_clean : {ts : List LineToken} → AreCleanTokens ts → IsClean (bytes_of_tokens ts)
row_clean no_tokens = clean_none
row_clean (next_token {t = t} {ts = ts} h r) = clean_append (token_bytes t) (bytes_of_tokens ts) h (row_clean r)

pub escaped_clean : (quote : ℕ) (s : List ℕ) → IsClean s → IsClean (escaped_text quote s)
escaped_clean quote [] h = clean_none
escaped_clean quote (c ∷ s) h = clean_append (cond (c == 92 || (c == 36) || (c == quote)) (92 ∷ c ∷ []) (c ∷ [])) (escaped_text quote s)
    (by_test (c == 92 || (c == 36) || (c == quote))) (escaped_clean quote s (clean_rest h))
  where
    by_test : (x : Bool) → IsClean (cond x (92 ∷ c ∷ []) (c ∷ []))
    by_test true = clean_cons refl (clean_cons (clean_first h) clean_none)
    by_test false = clean_cons (clean_first h) clean_none

pub in_quotes_clean : (quote : ℕ) (s : List ℕ) → (quote == 10) ≡ false → IsClean s → IsClean (in_quotes_of quote s)
in_quotes_clean quote s e h = clean_cons e (clean_append (escaped_text quote s) (quote ∷ []) (escaped_clean quote s h) (clean_cons e clean_none))

-- a written token has no newline in its bytes and in its meaning
pub record IsCleanToken (t : WrittenToken) : Type 0 where
  pub bytes : IsClean t.bytes
  pub meaning : IsCleanValue t.meaning

pub data AreCleanWritten : List WrittenToken → Type 0 where
  none_written : AreCleanWritten []
  next_written : {t : WrittenToken} {ts : List WrittenToken} → IsCleanToken t → AreCleanWritten ts → AreCleanWritten (t ∷ ts)

pub token_of_text_clean : (s : List ℕ) → IsClean s → IsCleanToken (token_of_text s)
token_of_text_clean [] h = record { bytes = clean refl; meaning = text_clean clean_none }
token_of_text_clean (c ∷ s) h = by_test (list_all is_bare_byte (c ∷ s) && not (is_keyword (c ∷ s)))
  where
    by_test : (x : Bool) → IsCleanToken (cond x (written_as Word (c ∷ s) (c ∷ s)) (written_as Quoted (in_quotes_of 34 (c ∷ s)) (c ∷ s)))
    by_test true = record { bytes = h; meaning = text_clean h }
    by_test false = record { bytes = in_quotes_clean 34 (c ∷ s) refl h; meaning = text_clean h }

pub token_of_value_clean : {v : Value} → IsCleanValue v → IsCleanToken (token_of_value v)
token_of_value_clean unknown_clean = record { bytes = clean_none; meaning = unknown_clean }
token_of_value_clean (text_clean {s = s} h) = token_of_text_clean s h

-- the text after the operator, if there is one
pub data IsCleanAssigned : Option AssignedText → Type 0 where
  no_assignment : IsCleanAssigned None
  an_assignment : {a : AssignedText} → IsClean a.text → IsCleanAssigned (Some a)

operator_clean : (s : List ℕ) → IsClean s → IsCleanAssigned (operator_at s)
operator_clean [] h = no_assignment
operator_clean (c ∷ []) h = by_test (c == 61)
  where
    by_test : (x : Bool) → IsCleanAssigned (cond x (Some (assigned Sets [])) None)
    by_test true = an_assignment clean_none
    by_test false = no_assignment
operator_clean (c ∷ d ∷ s) h = by_tests (c == 61) (c == 58 && (d == 61)) (c == 43 && (d == 61))
  where
    by_tests : (x y z : Bool)
        → IsCleanAssigned (cond x (Some (assigned Sets (d ∷ s))) (cond y (Some (assigned SetsNow s)) (cond z (Some (assigned Appends s)) None)))
    by_tests true y z = an_assignment (clean_rest h)
    by_tests false true z = an_assignment (clean_rest (clean_rest h))
    by_tests false false true = an_assignment (clean_rest (clean_rest h))
    by_tests false false false = no_assignment

blanks_clean : {a : Option AssignedText} → IsCleanAssigned a → IsCleanAssigned
    (option_map (λ (a : AssignedText). assigned a.operator (without_front is_blank_byte a.text)) a)
blanks_clean no_assignment = no_assignment
blanks_clean (an_assignment {a = a} h) = an_assignment (clean_drop (prefix_len is_blank_byte a.text) a.text h)

pub assignment_clean : (may_assign : Bool) (t : LineToken) {ts : List LineToken} → AreCleanTokens ts → IsCleanAssigned (assignment_at may_assign t ts)
assignment_clean false t r = no_assignment
assignment_clean true (trivia s) r = no_assignment
assignment_clean true (quoted quote s) r = no_assignment
assignment_clean true (other s) r = no_assignment
assignment_clean true (broken s) r = no_assignment
assignment_clean true (run s) {ts = ts} r = by_test (is_keyword s)
  where
    by_test : (x : Bool) → IsCleanAssigned (cond x None (option_map (λ (a : AssignedText). assigned a.operator (without_front is_blank_byte a.text))
        (operator_at (without_front is_white_byte (bytes_of_tokens ts)))))
    by_test true = no_assignment
    by_test false = blanks_clean (operator_clean (without_front is_white_byte (bytes_of_tokens ts))
        (clean_drop (prefix_len is_white_byte (bytes_of_tokens ts)) (bytes_of_tokens ts) (row_clean r)))

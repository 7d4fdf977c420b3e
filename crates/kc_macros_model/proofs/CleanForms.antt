-- Lines, forms and paths without newlines.
use Rattle.kc_macros_model.proofs.Common.{◌≡◌, ℕ, zero, suc, ◌+◌, Bool, true, false, ◌&&◌, cond, List, [], ◌∷◌, ◌++◌, map, refl, not, filter, bytes_eq, codes, decimal, reverse, ◌==◌, onto_first, prefix_len, first_so, second_so, Place, Value, Word, WrittenToken, written_as, without_front, is_trivia}
use Rattle.kc_macros_model.proofs.Common.{SourceSort, LineForm, plain, bare_prompt, replaced_by, named_choice, sources, form_of_two_words, form_of_first_word, form_of, without_trivia, with_nth_token, with_replacement, line_bytes, quoted_text_token, matches_name, path_pieces, sorted, ExpandedFile, is_taken}
use Rattle.kc_macros_model.proofs.Common.{free_key, path_meant, list_name, source_line, has_newline}
use Rattle.std.specs.Prelude.{slice_index}
use Rattle.std.specs.Str.{is_utf8}
use Rattle.kc_macros_model.specs.PathPatterns.{is_writable_name, is_in_order, inserted, matches}
use Rattle.kc_macros_model.specs.TreeExpansion.{folder_of, begins_with_slash}
use Rattle.kc_macros_model.proofs.CleanTexts.{IsClean, clean, clean_none, clean_cons, clean_first, clean_rest, clean_append, clean_drop, clean_reverse, clean_decimal, IsCleanValue, text_clean, AreClean, no_texts, next_text}
use Rattle.kc_macros_model.proofs.CleanLines.{in_quotes_clean, IsCleanToken, AreCleanWritten, none_written, next_written}

-- lines of tokens
pub line_bytes_clean : {ts : List WrittenToken} → AreCleanWritten ts → IsClean (line_bytes ts)
line_bytes_clean none_written = clean_none
line_bytes_clean (next_written {t = t} {ts = ts} h r) = clean_append t.bytes (line_bytes ts) h.bytes (line_bytes_clean r)

pub nth_token_clean : (n : ℕ) (new : WrittenToken) → IsCleanToken new → {ts : List WrittenToken} → AreCleanWritten ts
    → AreCleanWritten (with_nth_token n new ts)
nth_token_clean n new h none_written = none_written
nth_token_clean n new h (next_written {t = t} {ts = ts} k r) = by_tests n (is_trivia t) (λ m. nth_token_clean m new h r)
  where
    by_tests : (n : ℕ) (b : Bool) → ((m : ℕ) → AreCleanWritten (with_nth_token m new ts)) → AreCleanWritten
        (cond b (t ∷ with_nth_token n new ts) (elim n as (λ z. List WrittenToken) [ zero ↦ new ∷ ts | suc m ↦ t ∷ with_nth_token m new ts ]))
    by_tests n true ih = next_written k (ih n)
    by_tests zero false ih = next_written h r
    by_tests (suc m) false ih = next_written k (ih m)

pub replacement_clean : (new : List ℕ) → IsClean new → {ts : List WrittenToken} → AreCleanWritten ts → IsClean (with_replacement new ts)
replacement_clean new h none_written = h
replacement_clean new h (next_written {t = t} {ts = ts} k r) = by_test (replacement_clean new h r) (is_trivia t)
  where
    by_test : IsClean (with_replacement new ts) → (b : Bool) → IsClean (cond b (t.bytes ++ with_replacement new ts) new)
    by_test ih true = clean_append t.bytes (with_replacement new ts) k.bytes ih
    by_test ih false = h

pub trivia_gone_clean : {ts : List WrittenToken} → AreCleanWritten ts → AreCleanWritten (without_trivia ts)
trivia_gone_clean none_written = none_written
trivia_gone_clean (next_written {t = t} {ts = ts} h r) = by_test (trivia_gone_clean r) (not (is_trivia t))
  where
    by_test : AreCleanWritten (without_trivia ts) → (b : Bool) → AreCleanWritten (cond b (t ∷ without_trivia ts) (without_trivia ts))
    by_test ih true = next_written h ih
    by_test ih false = ih

-- the texts in a form have no newlines
pub data IsCleanForm : LineForm → Type 0 where
  clean_plain : IsCleanForm plain
  clean_prompt : {s : List ℕ} → IsClean s → IsCleanForm (bare_prompt s)
  clean_replacement : {s : List ℕ} → IsClean s → IsCleanForm (replaced_by s)
  clean_choice : {s : List ℕ} → IsCleanForm (named_choice s)
  clean_source : {sort : SourceSort} {v : Value} → IsCleanValue v → IsCleanForm (sources sort v)

pub either_form : (b : Bool) (f g : LineForm) → IsCleanForm f → IsCleanForm g → IsCleanForm (cond b f g)
either_form true f g h k = h
either_form false f g h k = k

pub pair_clean : (word : List ℕ) (t : WrittenToken) → IsCleanToken t → IsCleanForm (form_of_two_words word t)
pair_clean word t h = either_form _ _ _ (clean_source h.meaning) (either_form _ _ _ clean_choice
    (either_form _ _ _ (clean_replacement (clean refl)) (either_form _ _ _ (clean_replacement clean_none) clean_plain)))

pub word_form_clean : (word : List ℕ) (t : WrittenToken) (rest : List WrittenToken) → IsCleanToken t → IsCleanForm (form_of_first_word word t rest)
word_form_clean word t [] h = either_form _ _ _ (clean_prompt h.bytes) (pair_clean word t h)
word_form_clean word t (u ∷ us) h = either_form _ _ _ (clean_prompt h.bytes) clean_plain

pub form_clean : {ts : List WrittenToken} → AreCleanWritten ts → IsCleanForm (form_of ts)
form_clean none_written = clean_plain
form_clean (next_written h none_written) = clean_plain
form_clean (next_written {t = t} h (next_written {t = u} {ts = ts} k r)) = either_form _ _ _ (word_form_clean t.bytes u ts k) clean_plain

-- paths
pub folder_clean : (path : List ℕ) → IsClean path → IsClean (folder_of path)
folder_clean path h = clean_reverse (without_front (λ c. not (c == 47)) (reverse path))
    (clean_drop (prefix_len (λ c. not (c == 47)) (reverse path)) (reverse path) (clean_reverse path h))

pub meant_clean : (sort : SourceSort) (file given : List ℕ) → IsClean file → IsClean given → IsClean (path_meant sort file given)
meant_clean sort file given h k = by_test (sort.relative && not (begins_with_slash given))
  where
    by_test : (b : Bool) → IsClean (cond b (folder_of file ++ given) given)
    by_test true = clean_append (folder_of file) given (folder_clean file h) k
    by_test false = k

pub list_name_clean : (at : Place) → IsClean at.file → IsClean (list_name at)
list_name_clean at h = clean_append at.file (58 ∷ decimal at.line) h (clean_cons refl (clean_decimal at.line))

pub source_line_clean : (given key : List ℕ) {ts : List WrittenToken} → AreCleanWritten ts → IsClean key → IsClean (source_line ts given key)
source_line_clean given key {ts = ts} r h = by_test (bytes_eq key given)
  where
    first : List WrittenToken
    first = with_nth_token 0 (written_as Word (codes "source") []) ts

    first_clean : AreCleanWritten first
    first_clean = nth_token_clean 0 (written_as Word (codes "source") []) (record { bytes = clean refl; meaning = text_clean clean_none }) r

    by_test : (b : Bool) → IsClean (line_bytes (cond b first (with_nth_token 1 (quoted_text_token key) first)))
    by_test true = line_bytes_clean first_clean
    by_test false = line_bytes_clean (nth_token_clean 1 (quoted_text_token key) (record { bytes = in_quotes_clean 34 key refl h; meaning = text_clean h })
        first_clean)

-- lists of paths
pub both_clean : {xs ys : List (List ℕ)} → AreClean xs → AreClean ys → AreClean (xs ++ ys)
both_clean no_texts k = k
both_clean (next_text h r) k = next_text h (both_clean r k)

pub path_pieces_clean : (s : List ℕ) → IsClean s → AreClean (path_pieces s)
path_pieces_clean [] h = next_text clean_none no_texts
path_pieces_clean (c ∷ s) h = by_test (path_pieces_clean s (clean_rest h)) (c == 47)
  where
    onto : {ss : List (List ℕ)} → AreClean ss → AreClean (onto_first c ss)
    onto no_texts = next_text (clean_cons (clean_first h) clean_none) no_texts
    onto (next_text k r) = next_text (clean_cons (clean_first h) k) r

    by_test : AreClean (path_pieces s) → (b : Bool) → AreClean (cond b ([] ∷ path_pieces s) (onto_first c (path_pieces s)))
    by_test r true = next_text clean_none r
    by_test r false = onto r

pub not_true : (b : Bool) → not b ≡ true → b ≡ false
not_true true e = absurd (let z : ⊥ = cc in z)
not_true false e = refl

pub matching_clean : (piece folder : List ℕ) → IsClean folder → (names : List (List ℕ))
    → AreClean (map (λ name. folder ++ name) (filter (matches_name piece) names))
matching_clean piece folder h [] = no_texts
matching_clean piece folder h (name ∷ names) = by_test (matching_clean piece folder h names) (matches_name piece name) refl
  where
    by_test : AreClean (map (λ name. folder ++ name) (filter (matches_name piece) names)) → (b : Bool) → matches_name piece name ≡ b
        → AreClean (map (λ name. folder ++ name) (cond b (name ∷ filter (matches_name piece) names) (filter (matches_name piece) names)))
    by_test ih false e = ih
    by_test ih true e = next_text
        (clean_append folder name h
        (clean (not_true (has_newline name) (second_so (is_utf8 name) (not (has_newline name)) (first_so (is_writable_name name) (rest name) e))))) ih
      where
        rest : List ℕ → Bool
        rest name = not (slice_index name 0 == 46 && not (slice_index piece 0 == 46)) && matches piece name

pub inserted_clean : (s : List ℕ) → IsClean s → {ss : List (List ℕ)} → AreClean ss → AreClean (inserted s ss)
inserted_clean s h no_texts = next_text h no_texts
inserted_clean s h (next_text {s = t} {ss = ss} k r) = by_test (inserted_clean s h r) (is_in_order s t)
  where
    by_test : AreClean (inserted s ss) → (b : Bool) → AreClean (cond b (s ∷ t ∷ ss) (t ∷ inserted s ss))
    by_test ih true = next_text h (next_text k r)
    by_test ih false = next_text k ih

pub sorted_clean : {ss : List (List ℕ)} → AreClean ss → AreClean (sorted ss)
sorted_clean no_texts = no_texts
sorted_clean (next_text {s = s} h r) = inserted_clean s h (sorted_clean r)

pub with_slashes : {ss : List (List ℕ)} → AreClean ss → AreClean (map (λ path. path ++ 47 ∷ []) ss)
with_slashes no_texts = no_texts
with_slashes (next_text {s = s} h r) = next_text (clean_append s (47 ∷ []) h (clean refl)) (with_slashes r)

-- keys
pub free_key_clean : (n : ℕ) (root : List ℕ) (files : List ExpandedFile) (path text key : List ℕ) (number : ℕ) → IsClean path → IsClean key
    → IsClean (free_key n root files path text key number)
free_key_clean zero root files path text key number h k = k
free_key_clean (suc n) root files path text key number h k =
    by_test (free_key_clean n root files path text (path ++ 35 ∷ decimal number) (number + 1) h
    (clean_append path (35 ∷ decimal number) h (clean_cons refl (clean_decimal number)))) (is_taken root files text key)
  where
    by_test : IsClean (free_key n root files path text (path ++ 35 ∷ decimal number) (number + 1)) → (b : Bool)
        → IsClean (elim b as (λ z. List ℕ) [ true ↦ free_key n root files path text (path ++ 35 ∷ decimal number) (number + 1) | false ↦ key ])
    by_test ih true = ih
    by_test ih false = k

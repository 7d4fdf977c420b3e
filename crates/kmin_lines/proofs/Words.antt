-- Words `@FILE`, and words that are put together of lists.
use Rattle.std.proofs.Common.{◌≢◌, None, option_map, MatchOption, add-one, drop-cons, take-append-drop}
use Rattle.std.specs.Borrow.{Bor}
use Rattle.std.specs.Global.{Vec}
use Rattle.kmin_lines.proofs.Common.{◌≡◌, ℕ, suc, ◌+◌, ◌<◌, ◌==◌, true, false, List, [], ◌∷◌, ◌++◌, Option, Some, length, map, take, drop, get_or, refl, ap, sym, ◌∙◌, list_all, false_from_ne_true, eqb-true, is_utf8, are_utf8, words_in, with_lists, files_view, lists_view, texts_of}
use Rattle.std.proofs.lemmas.List.{map-append, drop-map}
use Rattle.kmin_lines.specs.WordFiles.{ends_options, file_of}
use Rattle.kmin_lines.proofs.PathLemmas.{one_fails}

-- what comes after the `@` of a word is the path of its file
pub file_is : (word : List ℕ) (r : Option (Bor (List ℕ))) → MatchOption r ((rest : List ℕ) → word ≢ 64 ∷ rest) (λ x. word ≡ 64 ∷ x.now)
    → option_map (λ (path : Bor (List ℕ)). path.now) r ≡ file_of word
file_is word (Some x) h = rw h refl
file_is [] None h = refl
file_is (b ∷ rest) None h = rw (false_from_ne_true (b == 64) (λ e. h rest (ap (λ c. c ∷ rest) (eqb-true b 64 e)))) refl

-- a list is the elements before a place, that at it, and those after it
mapped_at : {A B : Type 0} (f : A → B) (xs : List A) (i : ℕ) (x : A) → i < length xs → x ≡ get_or xs i x
    → map f xs ≡ map f (take i xs) ++ f x ∷ map f (drop (suc i) xs)
mapped_at f xs i x there is =
    ap (map f) (sym (take-append-drop i xs)) ∙ map-append f (take i xs) (drop i xs)
    ∙ ap (λ ys. map f (take i xs) ++ map f ys) (drop-cons xs i x there) ∙ ap (λ y. map f (take i xs) ++ f y ∷ map f (drop (suc i) xs)) (sym is)

-- the elements from a place on begin with that at it
mapped_from : {A B : Type 0} (f : A → B) (xs : List A) (i : ℕ) (x : A) → i < length xs → x ≡ get_or xs i x
    → map f (drop i xs) ≡ f x ∷ map f (drop (i + 1) xs)
mapped_from f xs i x there is =
    rw add-one (ap (map f) (drop-cons xs i x there) ∙ ap (λ y. f y ∷ map f (drop (suc i) xs)) (sym is))

-- where the words in one file aren't UTF-8, not all are
pub file_fails : (files : List (Vec ℕ)) (i : ℕ) (file : Vec ℕ) → i < length files → file ≡ get_or files i file → list_all is_utf8 (words_in file.items) ≡ false
    → are_utf8 (files_view files) ≡ false
file_fails files i file there is fails =
    rw (mapped_at (λ (file : Vec ℕ). file.items) files i file there is)
    (one_fails (λ file. list_all is_utf8 (words_in file)) (files_view (take i files)) file.items (files_view (drop (suc i) files)) fails)

module _ (words : List (Bor (List ℕ))) (i : ℕ) (word : Bor (List ℕ)) (there : i < length words) (is : word ≡ get_or words i word) where
  -- words from a `--` on are plain
  pub plain_from : (lists : List (List (List ℕ))) → ends_options word.now ≡ true → with_lists (texts_of (drop i words)) lists ≡ texts_of (drop i words)
  plain_from lists ends =
      let from = mapped_from (λ (word : Bor (List ℕ)). word.now) words i word there is in
      ap (λ ws. with_lists ws lists) from ∙ (rw ends (sym from))

-- the lists from a place on begin with that at it
pub lists_from : (lists : List (Vec (Bor (List ℕ)))) (used : ℕ) (list : Vec (Bor (List ℕ))) → used < length lists → list ≡ get_or lists used list
    → drop used (lists_view lists) ≡ texts_of list.items ∷ drop (used + 1) (lists_view lists)
lists_from lists used list there is =
    drop-map (λ (list : Vec (Bor (List ℕ))). texts_of list.items) used lists
    ∙ mapped_from (λ (list : Vec (Bor (List ℕ))). texts_of list.items) lists used list there is
    ∙ ap (λ rest. texts_of list.items ∷ rest) (sym (drop-map (λ (list : Vec (Bor (List ℕ))). texts_of list.items) (used + 1) lists))

-- words of a list are appended
pub words_appended : (all old more list : List (Bor (List ℕ))) → all ≡ old ++ more → more ≡ list → texts_of all ≡ texts_of old ++ texts_of list
words_appended all old more list appended are =
    rw (appended, are) (map-append (λ (word : Bor (List ℕ)). word.now) old list)

-- Keys of expanded files, through the map that holds them.
use Rattle.kc_files.proofs.Common.{◌≡◌, ℕ, suc, ◌+◌, Bool, true, false, cond, not, ◌&&◌, ◌||◌, List, [], ◌∷◌, ◌++◌, length, map, Option, Some, None, refl, sym, ap, ◌∙◌, arith, Vec, Result, Ok, Err, IfOk, OnOk, OnErr, bytes_eq, is_some, unwrap_or, nat_lt, list_any, lookup, Global, insert_entry}
use Rattle.kc_files.proofs.Common.{ExpandedFile, has_key, is_taken, free_key, key_of, FileOfKey, expanded_file, HasDistinctKeys, with_file, IsPushed, bytes_eq-Decides, nat_tests}
use Rattle.std.specs.Prelude.{decimal}
use Rattle.std.specs.List.{IsDistinct, AllByRecursion}
use Rattle.kc_files.proofs.TableLemmas.{bytes_eq_turned}
use Rattle.std.proofs.lemmas.List.{length-append}

abbrev Entry : Type 0
Entry = Vec ℕ Global × FileOfKey

abbrev key_of_entry : Entry → Vec ℕ Global
key_of_entry e = e.0

-- keys differ where those of the map do
others : (e : Entry) (es : List Entry) → AllByRecursion (λ (k : Vec ℕ Global). bytes_eq e.0.items k.items ≡ false) (map key_of_entry es)
    → AllByRecursion (λ k. bytes_eq e.0.items k ≡ false) (map (λ (f : ExpandedFile). f.key) (map expanded_file es))
others e [] h = tt
others e (f ∷ fs) h = (h.0, others e fs h.1)

pub distinct_keys : (es : List Entry) → IsDistinct (λ (a b : Vec ℕ Global). bytes_eq a.items b.items) (map key_of_entry es)
    → HasDistinctKeys (map expanded_file es)
unfolding IsDistinct
distinct_keys [] h = tt
distinct_keys (e ∷ es) h = (others e es h.0, distinct_keys es h.1)

pub count_files : (es : List Entry) → length (map expanded_file es) ≡ length es
count_files [] = refl
count_files (e ∷ es) = ap suc (count_files es)

-- a key is found in the map of expanded files exactly if one of the expanded files has it
pub key_is_there : (key : List ℕ) (es : List Entry) → is_some (lookup (λ (k : Vec ℕ Global). bytes_eq key k.items) es) ≡ has_key (map expanded_file es) key
key_is_there key [] = refl
key_is_there key (e ∷ es) = by_test (bytes_eq key e.0.items) (bytes_eq_turned key e.0.items) (key_is_there key es)
  where
    by_test : (b : Bool) → b ≡ bytes_eq e.0.items key → is_some (lookup (λ (k : Vec ℕ Global). bytes_eq key k.items) es) ≡ has_key (map expanded_file es) key
        → is_some (cond b (Some e.1) (lookup (λ (k : Vec ℕ Global). bytes_eq key k.items) es)) ≡ (bytes_eq e.0.items key || has_key (map expanded_file es) key)
    by_test true t ih = ap (λ c. c || has_key (map expanded_file es) key) t
    by_test false t ih = ih ∙ ap (λ c. c || has_key (map expanded_file es) key) t

-- whether there is an expanded file and its text isn't this text
abbrev pub differs : List ℕ → Option FileOfKey → Bool
differs text None = false
differs text (Some f) = not (bytes_eq f.text.value.items text)

absent_after : (key : List ℕ) (e : Entry) (es : List Entry) (text : List ℕ) → e.0.items ≡ key → AllByRecursion (λ k. bytes_eq e.0.items k ≡ false)
    (map (λ (f : ExpandedFile). f.key) (map expanded_file es))
    → list_any (λ (f : ExpandedFile). bytes_eq f.key key && not (bytes_eq f.text text)) (map expanded_file es) ≡ false
absent_after key e [] text s h = refl
absent_after key e (f ∷ fs) text s h =
    ap (λ b. (b && not (bytes_eq f.1.text.value.items text)) || list_any (λ (f : ExpandedFile). bytes_eq f.key key && not (bytes_eq f.text text))
    (map expanded_file fs)) (bytes_eq_turned f.0.items key ∙ ap (λ k. bytes_eq k f.0.items) (sym s) ∙ h.0)
    ∙ absent_after key e fs text s h.1

or_false : (b : Bool) → (b || false) ≡ b
or_false true = refl
or_false false = refl

pub taken_by : (key text : List ℕ) (es : List Entry) → HasDistinctKeys (map expanded_file es)
    → list_any (λ (f : ExpandedFile). bytes_eq f.key key && not (bytes_eq f.text text)) (map expanded_file es)
    ≡ differs text (lookup (λ (k : Vec ℕ Global). bytes_eq key k.items) es)
unfolding IsDistinct
taken_by key text [] h = refl
taken_by key text (e ∷ es) h = by_test (bytes_eq key e.0.items) refl (taken_by key text es h.1)
  where
    rest : Bool
    rest = list_any (λ (f : ExpandedFile). bytes_eq f.key key && not (bytes_eq f.text text)) (map expanded_file es)

    by_test : (b : Bool) → bytes_eq key e.0.items ≡ b → rest ≡ differs text (lookup (λ (k : Vec ℕ Global). bytes_eq key k.items) es)
        → ((bytes_eq e.0.items key && not (bytes_eq e.1.text.value.items text)) || rest) ≡ differs text
        (cond b (Some e.1) (lookup (λ (k : Vec ℕ Global). bytes_eq key k.items) es))
    by_test true t ih =
        ap (λ b. (b && not (bytes_eq e.1.text.value.items text)) || rest) (bytes_eq_turned e.0.items key ∙ t)
        ∙ ap (λ b. not (bytes_eq e.1.text.value.items text) || b) (absent_after key e es text (sym ((bytes_eq-Decides key e.0.items).0 t)) h.0)
        ∙ or_false (not (bytes_eq e.1.text.value.items text))
    by_test false t ih = ap (λ b. (b && not (bytes_eq e.1.text.value.items text)) || rest) (bytes_eq_turned e.0.items key ∙ t) ∙ ih

pub taken_otherwise : (root key text : List ℕ) (es : List Entry) → bytes_eq key root ≡ false → HasDistinctKeys (map expanded_file es)
    → is_taken root (map expanded_file es) text key ≡ differs text (lookup (λ (k : Vec ℕ Global). bytes_eq key k.items) es)
taken_otherwise root key text es e h = ap (λ b. b || list_any (λ (f : ExpandedFile). bytes_eq f.key key && not (bytes_eq f.text text)) (map expanded_file es)) e
    ∙ taken_by key text es h

-- an entry of a new key in the map of expanded files adds its file at the end of the expanded files
pub file_inserted : (es : List Entry) (k : Vec ℕ Global) (v : FileOfKey) → has_key (map expanded_file es) k.items ≡ false
    → map expanded_file (insert_entry (λ (a b : Vec ℕ Global). bytes_eq a.items b.items) es k v) ≡ map expanded_file es ++ record {
      key = k.items;
      path = v.path.items;
      text = v.text.value.items;
    } ∷ []
file_inserted [] k v h = refl
file_inserted (e ∷ es) k v h = by_test (bytes_eq e.0.items k.items) (bytes_eq_turned k.items e.0.items) h (file_inserted es k v)
  where
    by_test : (b : Bool) → bytes_eq k.items e.0.items ≡ b → (b || has_key (map expanded_file es) k.items) ≡ false
        → (has_key (map expanded_file es) k.items ≡ false → map expanded_file (insert_entry (λ (a b : Vec ℕ Global). bytes_eq a.items b.items) es k v)
        ≡ map expanded_file es ++ record { key = k.items; path = v.path.items; text = v.text.value.items } ∷ [])
        → map expanded_file (cond (bytes_eq k.items e.0.items) ((e.0, v) ∷ es) (e ∷ insert_entry (λ (a b : Vec ℕ Global). bytes_eq a.items b.items) es k v))
        ≡ expanded_file e ∷ (map expanded_file es ++ record { key = k.items; path = v.path.items; text = v.text.value.items } ∷ [])
    by_test true t h ih = absurd (let z : ⊥ = cc in z)
    by_test false t h ih = ap (λ b. map expanded_file (cond b ((e.0, v) ∷ es) (e ∷ insert_entry (λ (a b : Vec ℕ Global). bytes_eq a.items b.items) es k v))) t
        ∙ ap (λ xs. expanded_file e ∷ xs) (ih h)

-- the search for a free key ends with a key that isn't taken
pub key_free : (more : ℕ) (root : List ℕ) (files : List ExpandedFile) (path text key : List ℕ) (n : ℕ) → is_taken root files text key ≡ false
    → free_key (suc more) root files path text key n ≡ key
key_free more root files path text key n e = ap (λ b. elim b [ true ↦ free_key more root files path text (path ++ 35 ∷ decimal n) (n + 1) | false ↦ key ]) e

pub key_taken : (more : ℕ) (root : List ℕ) (files : List ExpandedFile) (path text key : List ℕ) (n : ℕ) → is_taken root files text key ≡ true
    → free_key (suc more) root files path text key n ≡ free_key more root files path text (path ++ 35 ∷ decimal n) (n + 1)
key_taken more root files path text key n e = ap (λ b. elim b [ true ↦ free_key more root files path text (path ++ 35 ∷ decimal n) (n + 1) | false ↦ key ]) e

pub kept_new : (key path text : List ℕ) (files : List ExpandedFile) → has_key files key ≡ false → files ++ record { key = key; path = path; text = text } ∷ []
    ≡ with_file key path text files
kept_new key path text files e = sym (ap (λ b. cond b files (files ++ record { key = key; path = path; text = text } ∷ [])) e)

pub kept_there : (key path text : List ℕ) (files : List ExpandedFile) → has_key files key ≡ true → files ≡ with_file key path text files
kept_there key path text files e = sym (ap (λ b. cond b files (files ++ record { key = key; path = path; text = text } ∷ [])) e)

-- the file that a map has for a key, and the entries of the map once the key has another file
abbrev there_of : List Entry → List ℕ → Option FileOfKey
there_of es key = lookup (λ (j : Vec ℕ Global). bytes_eq key j.items) es

abbrev with_entry : List Entry → Vec ℕ Global → FileOfKey → List Entry
with_entry es k f = insert_entry (λ (a b : Vec ℕ Global). bytes_eq a.items b.items) es k f

-- a map stays where a key gets the file that it has
same_entry : (es : List Entry) (k : Vec ℕ Global) (f : FileOfKey) → there_of es k.items ≡ Some f → with_entry es k f ≡ es
same_entry [] k f h = absurd (let z : ⊥ = cc in z)
same_entry (e ∷ es) k f h = by_test (bytes_eq k.items e.0.items) h (same_entry es k f)
  where
    by_test : (b : Bool) → cond b (Some e.1) (there_of es k.items) ≡ Some f → (there_of es k.items ≡ Some f → with_entry es k f ≡ es)
        → cond b ((e.0, f) ∷ es) (e ∷ with_entry es k f) ≡ e ∷ es
    by_test true h ih = ap (λ (x : FileOfKey). (e.0, x) ∷ es) (let z : f ≡ e.1 = cc in z)
    by_test false h ih = ap (λ xs. e ∷ xs) (ih h)

-- an entry that is added to the map of expanded files unless its key is there adds its file unless a file has the key
pub added_or_there : (es : List Entry) (k : Vec ℕ Global) (new added : FileOfKey) (o : Option FileOfKey) → there_of es k.items ≡ o → added ≡ unwrap_or o new
    → map expanded_file (with_entry es k added) ≡ with_file k.items new.path.items new.text.value.items (map expanded_file es)
added_or_there es k new added None h p =
    let absent : has_key (map expanded_file es) k.items ≡ false = sym (key_is_there k.items es) ∙ ap is_some h in
    ap (λ f. map expanded_file (with_entry es k f)) p
    ∙ file_inserted es k new absent ∙ kept_new k.items new.path.items new.text.value.items (map expanded_file es) absent
added_or_there es k new added (Some there) h p =
    ap (λ f. map expanded_file (with_entry es k f)) p
    ∙ ap (map expanded_file) (same_entry es k there h)
    ∙ kept_there k.items new.path.items new.text.value.items (map expanded_file es) (sym (key_is_there k.items es) ∙ ap is_some h)

-- equal entries of the map of expanded files are the same expanded files
pub viewed_as : (es fs : List Entry) (files : List ExpandedFile) → es ≡ fs → map expanded_file fs ≡ files → map expanded_file es ≡ files
viewed_as es fs files e h = ap (map expanded_file) e ∙ h

-- the number of expanded files grows by adding a file exactly if no file had its key
pub grown_where_new : (key path text : List ℕ) (files more : List ExpandedFile) (before after : ℕ) → before ≡ length files → after ≡ length more
    → more ≡ with_file key path text files → nat_lt before after ≡ not (has_key files key)
grown_where_new key path text files more before after b a e = by_test (has_key files key) (ap length e)
  where
    new : ExpandedFile
    new = record { key = key; path = path; text = text }

    by_test : (there : Bool) → length more ≡ length (cond there files (files ++ new ∷ [])) → nat_lt before after ≡ not there
    by_test true h = let z : nat_lt before after ≡ false = grind (arith, nat_tests) in z
    by_test false h =
        let n = h ∙ length-append files (new ∷ []) in
        let z : nat_lt before after ≡ true = grind (arith, nat_tests) in z

-- a key that is reported as new wasn't there before
pub new_key : (there : Bool) → not there ≡ true → there ≡ false
new_key true h = absurd (let z : ⊥ = cc in z)
new_key false h = refl

pub old_key : (there : Bool) → not there ≡ false → there ≡ true
old_key true h = refl
old_key false h = absurd (let z : ⊥ = cc in z)

pub pushed_below_root : {E : Type 0} (root path text : List ℕ) (files more : List ExpandedFile) (r : Result Bool E) → bytes_eq path root ≡ false
    → IfOk r (λ first. first ≡ not (has_key files path)) → OnOk r (more ≡ with_file path path text files)
    → IfOk r (λ pushed. IsPushed root path text files pushed more)
pushed_below_root root path text files more (Err e) d f h = tt
pushed_below_root root path text files more (Ok true) d f h = (d, new_key (has_key files path) (sym f), h)
pushed_below_root root path text files more (Ok false) d f h = h ∙ sym (kept_there path path text files (old_key (has_key files path) (sym f)))

pub on_err : {A E P : Type 0} (r : Result A E) → P → OnErr r P
on_err (Ok x) p = tt
on_err (Err e) p = p

-- a path that is no key is free
no_other : (key text : List ℕ) (files : List ExpandedFile) → has_key files key ≡ false
    → list_any (λ (f : ExpandedFile). bytes_eq f.key key && not (bytes_eq f.text text)) files ≡ false
no_other key text [] h = refl
no_other key text (f ∷ fs) h = by_test (bytes_eq f.key key) (no_other key text fs) h
  where
    by_test : (b : Bool) → (has_key fs key ≡ false → list_any (λ (f : ExpandedFile). bytes_eq f.key key && not (bytes_eq f.text text)) fs ≡ false)
        → (b || has_key fs key) ≡ false
        → ((b && not (bytes_eq f.text text)) || list_any (λ (f : ExpandedFile). bytes_eq f.key key && not (bytes_eq f.text text)) fs) ≡ false
    by_test true ih e = absurd (let z : true ≡ false = e in let y : ⊥ = cc in y)
    by_test false ih e = ih e

pub path_is_free : (root : List ℕ) (files : List ExpandedFile) (path text : List ℕ) → bytes_eq path root ≡ false → has_key files path ≡ false
    → key_of root files path text ≡ path
path_is_free root files path text e h =
    ap (λ b. elim b as (λ x. List ℕ) [ true ↦ free_key (length files) root files path text (path ++ 35 ∷ decimal 2) 3 | false ↦ path ])
    (ap (λ b. b || list_any (λ (f : ExpandedFile). bytes_eq f.key path && not (bytes_eq f.text text)) files) e ∙ no_other path text files h)

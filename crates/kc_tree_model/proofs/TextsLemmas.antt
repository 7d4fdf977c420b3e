-- The files of a tree, through the map that holds them.
use Rattle.kc_tree_model.proofs.Common.{◌≡◌, ℕ, suc, length, arith, ◌≤◌, ◌+◌, Bool, true, false, not, List, [], ◌∷◌, map, refl, ap, sym, ◌∙◌, cond, AllByRecursion, ltb-false, position_or_len, nat_lt, Vec, bytes_eq, option_map, Global, lookup, Language, files_of, Files, with_file}
use Rattle.std.specs.List.{IsDistinct}
use Rattle.std.specs.declared.rc.Rc.{Rc}
use Rattle.std.specs.List.{position}
use Rattle.std.specs.Prelude.{None, String, string_bytes, string_eq, Option, Some}
use Rattle.indexmap.specs.IndexMap.{insert_entry}
use Rattle.std.specs.Map.{keys_of}
use Rattle.kc_tree_model.specs.checker.TextsView.{file_of}
use Rattle.kc_tree_model.specs.TreeFiles.{with_path}

insert_by : (b : Bool) (e : String Global × Rc (Vec ℕ Global) Global) (es fs : List (String Global × Rc (Vec ℕ Global) Global)) (v : Rc (Vec ℕ Global) Global)
    → map file_of (cond b ((e.0, v) ∷ es) (e ∷ fs)) ≡ cond b ((string_bytes e.0, v.value.items) ∷ map file_of es) (file_of e ∷ map file_of fs)
insert_by true e es fs v = refl
insert_by false e es fs v = refl

insert_paths : (es : List (String Global × Rc (Vec ℕ Global) Global)) (k : String Global) (v : Rc (Vec ℕ Global) Global) → map file_of (insert_entry string_eq es k v)
    ≡ with_path (map file_of es) (string_bytes k) v.value.items
insert_paths [] k v = refl
insert_paths (e ∷ es) k v = insert_by (string_eq k e.0) e es (insert_entry string_eq es k v) v
    ∙ ap (λ fs. cond (string_eq k e.0) ((string_bytes e.0, v.value.items) ∷ map file_of es) (file_of e ∷ fs)) (insert_paths es k v)

abbrev files_with : Language → List (List ℕ × List ℕ) → Files
files_with language list = record { language = language; list = list }

pub insert_files : (language : Language) (es : List (String Global × Rc (Vec ℕ Global) Global)) (k : String Global) (v : Rc (Vec ℕ Global) Global)
    → files_of language (insert_entry string_eq es k v) ≡ with_file (files_of language es) (string_bytes k) v.value.items
insert_files language es k v = ap (files_with language) (insert_paths es k v)

-- a look-up by the bytes of a path
find_by : (b : Bool) (e : String Global × Rc (Vec ℕ Global) Global) (o : Option (Rc (Vec ℕ Global) Global))
    → option_map (λ (v : Rc (Vec ℕ Global) Global). v.value.items) (cond b (Some e.1) o) ≡ cond b (Some e.1.value.items) (option_map (λ (v : Rc (Vec ℕ Global) Global). v.value.items) o)
find_by true e o = refl
find_by false e o = refl

pub find_file : (path : List ℕ) (es : List (String Global × Rc (Vec ℕ Global) Global)) → option_map (λ (v : Rc (Vec ℕ Global) Global). v.value.items)
    (lookup (λ k. bytes_eq path (string_bytes k)) es) ≡ lookup (bytes_eq path) (map file_of es)
find_file path [] = refl
find_file path (e ∷ es) =
    find_by (bytes_eq path (string_bytes e.0)) e (lookup (λ k. bytes_eq path (string_bytes k)) es)
    ∙ ap (λ o. cond (bytes_eq path (string_bytes e.0)) (Some e.1.value.items) o) (find_file path es)

-- paths differ where the keys of the map do
others : (e : String Global × Rc (Vec ℕ Global) Global) (es : List (String Global × Rc (Vec ℕ Global) Global)) → AllByRecursion (λ k. string_eq e.0 k ≡ false) (keys_of es)
    → AllByRecursion (λ p. bytes_eq (string_bytes e.0) p ≡ false) (map (λ (f : List ℕ × List ℕ). f.0) (map file_of es))
others e [] h = tt
others e (f ∷ fs) h = (h.0, others e fs h.1)

pub distinct_paths : (es : List (String Global × Rc (Vec ℕ Global) Global)) → IsDistinct string_eq (keys_of es) → IsDistinct bytes_eq
    (map (λ (f : List ℕ × List ℕ). f.0) (map file_of es))
unfolding IsDistinct
distinct_paths [] h = tt
distinct_paths (e ∷ es) h = (others e es h.0, distinct_paths es h.1)

pub length-files : (es : List (String Global × Rc (Vec ℕ Global) Global)) → length (map file_of es) ≡ length es
length-files [] = refl
length-files (e ∷ es) = ap suc (length-files es)

pub no_files : (es : List (String Global × Rc (Vec ℕ Global) Global)) → length es ≡ 0 → map file_of es ≡ []
no_files [] h = refl
no_files (e ∷ es) h = absurd (omega arith)

-- the number of a path is its position among the keys
number_of_key : (path : List ℕ) (es : List (String Global × Rc (Vec ℕ Global) Global)) → position_or_len (λ (f : List ℕ × List ℕ). bytes_eq path f.0) (map file_of es)
    ≡ position_or_len (λ k. bytes_eq path (string_bytes k)) (keys_of es)
number_of_key path [] = refl
number_of_key path (e ∷ es) = ap (λ m. cond (not (bytes_eq path (string_bytes e.0))) (1 + m) 0) (number_of_key path es)

within_by : (b : Bool) (m n : ℕ) → m ≤ n → cond b (1 + m) 0 ≤ suc n
within_by true m n h = omega arith
within_by false m n h = omega arith

number_within : (path : List ℕ) (fs : List (List ℕ × List ℕ)) → position_or_len (λ (f : List ℕ × List ℕ). bytes_eq path f.0) fs ≤ length fs
number_within path [] = omega arith
number_within path (f ∷ fs) = within_by (not (bytes_eq path f.0)) (position_or_len (λ (f : List ℕ × List ℕ). bytes_eq path f.0) fs) (length fs)
    (number_within path fs)

found_by : (b : Bool) (n i : ℕ) → cond b (Some n) None ≡ Some i → i ≡ n
found_by true n i e = cc
found_by false n i e = cc

absent_by : (b : Bool) (n m : ℕ) → nat_lt n m ≡ b → cond b (Some n) None ≡ None → m ≤ n
absent_by true n m t e = cc
absent_by false n m t e = ltb-false n m t

length-keys : (es : List (String Global × Rc (Vec ℕ Global) Global)) → length (keys_of es) ≡ length (map file_of es)
length-keys [] = refl
length-keys (e ∷ es) = ap suc (length-keys es)

pub number_found : (path : List ℕ) (es : List (String Global × Rc (Vec ℕ Global) Global)) (i : ℕ) → position (λ k. bytes_eq path (string_bytes k)) (keys_of es) ≡ Some i
    → i ≡ position_or_len (λ (f : List ℕ × List ℕ). bytes_eq path f.0) (map file_of es)
number_found path es i e = found_by (nat_lt (position_or_len (λ k. bytes_eq path (string_bytes k)) (keys_of es)) (length (keys_of es)))
    (position_or_len (λ k. bytes_eq path (string_bytes k)) (keys_of es)) i e ∙ sym (number_of_key path es)

pub number_absent : (path : List ℕ) (es : List (String Global × Rc (Vec ℕ Global) Global)) → position (λ k. bytes_eq path (string_bytes k)) (keys_of es) ≡ None
    → length es ≡ position_or_len (λ (f : List ℕ × List ℕ). bytes_eq path f.0) (map file_of es)
number_absent path es e =
    let a = absent_by (nat_lt (position_or_len (λ k. bytes_eq path (string_bytes k)) (keys_of es)) (length (keys_of es)))
    (position_or_len (λ k. bytes_eq path (string_bytes k)) (keys_of es)) (length (keys_of es)) refl e in
    let k = number_of_key path es in
    let w = number_within path (map file_of es) in
    let l = length-keys es in
    let f = length-files es in
    omega (arith, a, k, w, l, f)

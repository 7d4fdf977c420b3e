-- The first file of a tree comes after the files that were sourced.
use Rattle.kc_files.proofs.Common.{◌≡◌, ℕ, Bool, true, false, cond, List, [], ◌∷◌, ◌++◌, Some, None, refl, ap, ◌∙◌, bytes_eq, ExpandedFile, path_of_key}
use Rattle.kc_files.proofs.TableLemmas.{bytes_eq_turned}

-- the path of a key in the first of two lists of expanded files is its path in both lists together
pub path_in_front : (fs gs : List ExpandedFile) (key path : List ℕ) → path_of_key fs key ≡ Some path → path_of_key (fs ++ gs) key ≡ Some path
path_in_front [] gs key path h = absurd (let z : ⊥ = cc in z)
path_in_front (f ∷ fs) gs key path h = by_test (bytes_eq f.key key) h (path_in_front fs gs key path)
  where
    by_test : (b : Bool) → cond b (Some f.path) (path_of_key fs key) ≡ Some path → (path_of_key fs key ≡ Some path → path_of_key (fs ++ gs) key ≡ Some path)
        → cond b (Some f.path) (path_of_key (fs ++ gs) key) ≡ Some path
    by_test true h ih = h
    by_test false h ih = ih h

pub path_after : (fs gs : List ExpandedFile) (key : List ℕ) → path_of_key fs key ≡ None → path_of_key (fs ++ gs) key ≡ path_of_key gs key
path_after [] gs key h = refl
path_after (f ∷ fs) gs key h = by_test (bytes_eq f.key key) h (path_after fs gs key)
  where
    by_test : (b : Bool) → cond b (Some f.path) (path_of_key fs key) ≡ None → (path_of_key fs key ≡ None → path_of_key (fs ++ gs) key ≡ path_of_key gs key)
        → cond b (Some f.path) (path_of_key (fs ++ gs) key) ≡ path_of_key gs key
    by_test true h ih = absurd (let z : ⊥ = cc in z)
    by_test false h ih = ih h

-- where no file before the last has a key, the path of the key is that of the last file if this has the key, and none otherwise
pub path_at_end : (fs : List ExpandedFile) (f : ExpandedFile) (key : List ℕ) (b : Bool) → path_of_key fs key ≡ None → bytes_eq key f.key ≡ b
    → path_of_key (fs ++ f ∷ []) key ≡ cond b (Some f.path) None
path_at_end fs f key b h k = path_after fs (f ∷ []) key h ∙ ap (λ (x : Bool). cond x (Some f.path) None) (bytes_eq_turned f.key key ∙ k)

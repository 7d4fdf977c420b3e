-- The keys that are tried for an expanded file: one of them is free.
use Rattle.kc_macros_model.proofs.Common.{◌≡◌, ℕ, zero, suc, ◌+◌, ◌<◌, ◌≤◌, Bool, true, false, ◌&&◌, ◌||◌, List, [], ◌∷◌, ◌++◌, length, map, refl, sym, ap, ◌∙◌, subst, arith, length-append, inl, inr, ◌⊎◌, not, bytes_eq, decimal, list_any, AllByRecursion, first_so, nat_list_eq_equiv}
use Rattle.kc_macros_model.proofs.Common.{bytes_eq-Decides, MAX_FILES, ExpandedFile, is_taken, free_key, key_of, IsKeyOf, the_path}
use Rattle.std.specs.List.{IsDistinct}
use Rattle.std.specs.Set.{is_member}
use Rattle.std.proofs.lemmas.Bool.{cases_lt}
use Rattle.std.proofs.lemmas.List.{append_cancel_left, length-map}
use Rattle.std.proofs.lemmas.Fmt.{decimal_injective}
use Rattle.std.proofs.lemmas.Map.Made.{length-le_from_is_member}
use Rattle.kc_macros_model.specs.ReadingLaws.{numbered}

pub same_text : (x y : List ℕ) → bytes_eq x y ≡ true → x ≡ y
same_text x y e = (bytes_eq-Decides x y).0 e

pub other_text : (x y : List ℕ) → (x ≡ y → ⊥) → bytes_eq x y ≡ false
other_text x y n = by_test (bytes_eq x y) refl
  where
    by_test : (b : Bool) → bytes_eq x y ≡ b → b ≡ false
    by_test true e = absurd (n (same_text x y e))
    by_test false e = refl

-- the keys of a path by their places
abbrev key_at : List ℕ → ℕ → List ℕ
key_at path zero = path
key_at path (suc i) = path ++ 35 ∷ decimal (i + 2)

longer : (path s : List ℕ) (c : ℕ) → path ++ c ∷ s ≡ path → ⊥
longer path s c e = omega (arith, ap length e, length-append path (c ∷ s))

same_tail : (c : ℕ) (s t : List ℕ) → c ∷ s ≡ c ∷ t → s ≡ t
same_tail c s t e = cc

keys_differ : (path : List ℕ) (i j : ℕ) → j < i → i ≤ MAX_FILES → key_at path i ≡ key_at path j → ⊥
keys_differ path zero j h b e = omega (arith, h)
keys_differ path (suc i) zero h b e = longer path (decimal (i + 2)) 35 e
keys_differ path (suc i) (suc j) h b e =
    let p : decimal (i + 2) ≡ decimal (j + 2) = same_tail 35 (decimal (i + 2)) (decimal (j + 2))
    (append_cancel_left path (35 ∷ decimal (i + 2)) (35 ∷ decimal (j + 2)) e) in
    let small : i + 2 < 18446744073709551616 = omega (arith, b) in
    let smaller : j + 2 < 18446744073709551616 = omega (arith, b, h) in
    let q : i + 2 ≡ j + 2 = decimal_injective (i + 2) (j + 2) small smaller p in
    omega (arith, h, q)

-- the first keys of a path, the last of them first
abbrev first_keys : List ℕ → ℕ → List (List ℕ)
first_keys path zero = []
first_keys path (suc n) = key_at path n ∷ first_keys path n

first_keys_count : (path : List ℕ) (n : ℕ) → length (first_keys path n) ≡ n
first_keys_count path zero = refl
first_keys_count path (suc n) = ap suc (first_keys_count path n)

later_keys_differ : (path : List ℕ) (i n : ℕ) → n ≤ i → i ≤ MAX_FILES → AllByRecursion (λ y. bytes_eq (key_at path i) y ≡ false) (first_keys path n)
later_keys_differ path i zero h b = tt
later_keys_differ path i (suc n) h b = (
  other_text (key_at path i) (key_at path n) (keys_differ path i n (omega (arith, h)) b),
  later_keys_differ path i n (omega (arith, h)) b,
)

first_keys_differ : (path : List ℕ) (n : ℕ) → n ≤ suc MAX_FILES → IsDistinct bytes_eq (first_keys path n)
unfolding IsDistinct
first_keys_differ path zero h = tt
first_keys_differ path (suc n) h = (later_keys_differ path n n (omega arith) (omega (arith, h)), first_keys_differ path n (omega (arith, h)))

module _ (root : List ℕ) (files : List ExpandedFile) (path text : List ℕ) where
  -- the keys that may be taken
  abbrev keys : List (List ℕ)
  keys = root ∷ map (λ (f : ExpandedFile). f.key) files

  abbrev IsTaken : List ℕ → Type 0
  IsTaken key = is_taken root files text key ≡ true

  file_taken : (key : List ℕ) (fs : List ExpandedFile) → list_any (λ (f : ExpandedFile). bytes_eq f.key key && not (bytes_eq f.text text)) fs ≡ true
      → list_any (bytes_eq key) (map (λ (f : ExpandedFile). f.key) fs) ≡ true
  file_taken key [] e = absurd (let z : ⊥ = cc in z)
  file_taken key (f ∷ fs) e = by_test (file_taken key fs) (bytes_eq f.key key && not (bytes_eq f.text text)) refl e
    where
      either : (b : Bool) → list_any (bytes_eq key) (map (λ (f : ExpandedFile). f.key) fs) ≡ true
          → (b || list_any (bytes_eq key) (map (λ (f : ExpandedFile). f.key) fs)) ≡ true
      either true h = refl
      either false h = h

      by_test : (list_any (λ (f : ExpandedFile). bytes_eq f.key key && not (bytes_eq f.text text)) fs ≡ true
          → list_any (bytes_eq key) (map (λ (f : ExpandedFile). f.key) fs) ≡ true) → (b : Bool) → (bytes_eq f.key key && not (bytes_eq f.text text)) ≡ b
          → (b || list_any (λ (f : ExpandedFile). bytes_eq f.key key && not (bytes_eq f.text text)) fs) ≡ true
          → (bytes_eq key f.key || list_any (bytes_eq key) (map (λ (f : ExpandedFile). f.key) fs)) ≡ true
      by_test ih true h e =
          ap (λ b. b || list_any (bytes_eq key) (map (λ (f : ExpandedFile). f.key) fs)) (nat_list_eq_equiv.symm key f.key
          ∙ first_so (bytes_eq f.key key) (not (bytes_eq f.text text)) h)
      by_test ih false h e = either (bytes_eq key f.key) (ih e)

  taken_key : (key : List ℕ) → IsTaken key → is_member bytes_eq keys key ≡ true
  taken_key key e = by_test (bytes_eq key root) e
    where
      by_test : (b : Bool) → (b || list_any (λ (f : ExpandedFile). bytes_eq f.key key && not (bytes_eq f.text text)) files) ≡ true
          → (b || list_any (bytes_eq key) (map (λ (f : ExpandedFile). f.key) files)) ≡ true
      by_test true e = refl
      by_test false e = file_taken key files e

  taken_keys : (n : ℕ) → ((j : ℕ) → j < n → IsTaken (key_at path j)) → (q : List ℕ) → is_member bytes_eq (first_keys path n) q ≡ true
      → is_member bytes_eq keys q ≡ true
  taken_keys zero h q e = absurd (let z : ⊥ = cc in z)
  taken_keys (suc n) h q e = by_test (taken_keys n (λ j l. h j (omega (arith, l)))) (bytes_eq q (key_at path n)) refl e
    where
      by_test : ((q : List ℕ) → list_any (bytes_eq q) (first_keys path n) ≡ true → is_member bytes_eq keys q ≡ true) → (b : Bool)
          → bytes_eq q (key_at path n) ≡ b → (b || list_any (bytes_eq q) (first_keys path n)) ≡ true → is_member bytes_eq keys q ≡ true
      by_test ih true t e = subst (λ x. is_member bytes_eq keys x ≡ true) (sym (same_text q (key_at path n) t)) (taken_key (key_at path n) (h n (omega arith)))
      by_test ih false t e = ih q e

  -- no more keys are taken than there are files and the first file
  few_taken : (n : ℕ) → n ≤ suc MAX_FILES → ((j : ℕ) → j < n → IsTaken (key_at path j)) → n ≤ suc (length files)
  few_taken n b h =
      let few = length-le_from_is_member nat_list_eq_equiv (first_keys path n) keys (first_keys_differ path n b) (taken_keys n h) in
      omega (arith, few, first_keys_count path n, length-map files (λ (f : ExpandedFile). f.key))

  -- the key isn't taken, and is the path of the expanded text or that path with `#` and a number
  pub record IsFreeKey (key : List ℕ) : Type 0 where
    pub free : is_taken root files text key ≡ false
    pub of_path : IsKeyOf path key

  key_is : (i : ℕ) → suc i ≤ MAX_FILES → IsKeyOf path (key_at path i)
  key_is zero h = the_path
  key_is (suc i) h = numbered (omega arith) (omega (arith, h))

  not_true : (b : Bool) → (b ≡ true → ⊥) → b ≡ false
  not_true true n = absurd (n refl)
  not_true false n = refl

  one_more : (i : ℕ) → IsTaken (key_at path i) → ((j : ℕ) → j < i → IsTaken (key_at path j)) → (j : ℕ) → j < suc i → IsTaken (key_at path j)
  one_more i t h j l = by_order (cases_lt j i)
    where
      by_order : (j < i) ⊎ (i ≤ j) → IsTaken (key_at path j)
      by_order (inl a) = h j a
      by_order (inr a) = let e : i ≡ j = omega (arith, l, a) in subst (λ x. IsTaken (key_at path x)) e t

  found_free : (more i n : ℕ) (key : List ℕ) → key ≡ key_at path i → n ≡ i + 2 → i + more ≡ suc (length files) → length files + 2 ≤ MAX_FILES
      → ((j : ℕ) → j < i → IsTaken (key_at path j))
      → IsFreeKey (free_key more root files path text key n)
  found_free zero i n key k e c b h = record {
    free = not_true (is_taken root files text key) (λ t. let few = few_taken (suc i) (omega (arith, c, b)) (one_more i (subst (λ x. IsTaken x) k t) h) in
        omega (arith, few, c));
    of_path = subst (λ x. IsKeyOf path x) (sym k) (key_is i (omega (arith, c, b)));
  }
  found_free (suc more) i n key k e c b h =
      by_test (λ t. found_free more (suc i) (n + 1) (path ++ 35 ∷ decimal n) (ap (λ x. path ++ 35 ∷ decimal x) e) (omega (arith, e)) (omega (arith, c)) b
      (one_more i (subst (λ x. IsTaken x) k t) h)) (is_taken root files text key) refl
    where
      by_test : (is_taken root files text key ≡ true → IsFreeKey (free_key more root files path text (path ++ 35 ∷ decimal n) (n + 1))) → (t : Bool)
          → is_taken root files text key ≡ t → IsFreeKey (elim t as (λ z. List ℕ) [
            | true ↦ free_key more root files path text (path ++ 35 ∷ decimal n) (n + 1)
            | false ↦ key
          ])
      by_test ih true t = ih t
      by_test ih false t = record { free = t; of_path = subst (λ x. IsKeyOf path x) (sym k) (key_is i (omega (arith, c, b))) }

  -- the key that `key_of` gives to an expanded text isn't taken, and is the text's path or that path with `#` and a number
  pub key_is_free : length files + 2 ≤ MAX_FILES → IsFreeKey (key_of root files path text)
  key_is_free b = found_free (suc (length files)) 0 2 path refl refl (omega arith) b (λ j l. absurd (omega (arith, l)))

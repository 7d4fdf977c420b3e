-- Lists of paths without repeats.
use Rattle.kc_checks.proofs.Common.{◌≡◌, ℕ, Bool, true, false, List, [], ◌∷◌, ◌++◌, ◌||◌, map, refl, ap, sym, ◌∙◌, cond, bytes_eq, list_any, map-append, without_repeats, with_path, filter}
use Rattle.std.proofs.lemmas.Slice.Eq.{bytes_eq-Decides}
use Rattle.std.proofs.lemmas.Bool.{false_from_ne_true}
use Rattle.kc_tree_model.specs.Limits.{is_in_list}

other_bytes : (n m : List ℕ) → (n ≡ m → ⊥) → bytes_eq n m ≡ false
other_bytes n m ne = false_from_ne_true _ (λ e. ne ((bytes_eq-Decides n m).0 e))

pub turned : (x y : List ℕ) → bytes_eq x y ≡ bytes_eq y x
turned x y = by_test (bytes_eq x y) refl
  where
    by_test : (t : Bool) → bytes_eq x y ≡ t → t ≡ bytes_eq y x
    by_test true e = sym ((bytes_eq-Decides y x).1 (sym ((bytes_eq-Decides x y).0 e)))
    by_test false e = sym (other_bytes y x (λ p. let q : bytes_eq x y ≡ true = (bytes_eq-Decides x y).1 (sym p) in cc))

-- paths that are held as keys
module _ {K : Type 0} (name : K → List ℕ) (v : K) where
  pub among_keys : (ks : List K) → list_any (λ k. bytes_eq (name v) (name k)) ks ≡ is_in_list (name v) (map name ks)
  among_keys [] = refl
  among_keys (k ∷ ks) = rw (turned (name v) (name k), among_keys ks) refl

  pushed_by : (b : Bool) (ks : List K) → map name (cond b ks (ks ++ v ∷ [])) ≡ cond b (map name ks) (map name ks ++ name v ∷ [])
  pushed_by true ks = refl
  pushed_by false ks = map-append name ks (v ∷ [])

  pub paths_pushed : (ks : List K) → map name (cond (list_any (λ k. bytes_eq (name v) (name k)) ks) ks (ks ++ v ∷ [])) ≡ with_path (name v) (map name ks)
  paths_pushed ks = pushed_by (list_any (λ k. bytes_eq (name v) (name k)) ks) ks ∙ ap (λ b. cond b (map name ks) (map name ks ++ name v ∷ [])) (among_keys ks)

-- the paths of a list that pass a test, each once
module _ (f : List ℕ → Bool) where
  or_true : (t : Bool) → (t || true) ≡ true
  or_true true = refl
  or_true false = refl

  or_false : (t : Bool) → (t || false) ≡ t
  or_false true = refl
  or_false false = refl

  or_more : (t a b c : Bool) → a ≡ (b || c) → (t || a) ≡ ((t || b) || c)
  or_more true a b c e = refl
  or_more false a b c e = e

  among-append : (x y : List ℕ) (ys : List (List ℕ)) → is_in_list x (ys ++ y ∷ []) ≡ (is_in_list x ys || bytes_eq y x)
  among-append x y [] = or_false (bytes_eq y x)
  among-append x y (z ∷ ys) = or_more (bytes_eq z x) (is_in_list x (ys ++ y ∷ [])) (is_in_list x ys) (bytes_eq y x) (among-append x y ys)

  once_by : (x y : List ℕ) (ys : List (List ℕ)) → ((z : List ℕ) → is_in_list z (without_repeats ys) ≡ is_in_list z ys)
      → (a : Bool) → is_in_list y ys ≡ a → (b : Bool) → bytes_eq y x ≡ b
      → is_in_list x (cond a (without_repeats ys) (without_repeats ys ++ y ∷ [])) ≡ (b || is_in_list x ys)
  once_by x y ys ih true e true h = ap (λ z. is_in_list z (without_repeats ys)) (sym ((bytes_eq-Decides y x).0 h)) ∙ ih y ∙ e
  once_by x y ys ih true e false h = ih x
  once_by x y ys ih false e true h = among-append x y (without_repeats ys) ∙ rw h (or_true (is_in_list x (without_repeats ys)))
  once_by x y ys ih false e false h = among-append x y (without_repeats ys) ∙ rw h (or_false (is_in_list x (without_repeats ys))) ∙ ih x

  -- no path is lost
  among_once : (x : List ℕ) (ys : List (List ℕ)) → is_in_list x (without_repeats ys) ≡ is_in_list x ys
  among_once x [] = refl
  among_once x (y ∷ ys) = once_by x y ys (λ z. among_once z ys) (is_in_list y ys) refl (bytes_eq y x) refl

  kept_by : (x y : List ℕ) (ys : List (List ℕ)) → f x ≡ true → is_in_list x (filter f ys) ≡ is_in_list x ys → (t : Bool) → f y ≡ t
      → is_in_list x (cond t (y ∷ filter f ys) (filter f ys)) ≡ (bytes_eq y x || is_in_list x ys)
  kept_by x y ys e ih true g = ap (λ b. bytes_eq y x || b) ih
  kept_by x y ys e ih false g =
      let n : bytes_eq y x ≡ false = other_bytes y x (λ p. let q : f y ≡ f x = ap f p in cc) in
      rw n ih

  -- a path that passes is among those that pass
  among_kept : (x : List ℕ) → f x ≡ true → (ys : List (List ℕ)) → is_in_list x (filter f ys) ≡ is_in_list x ys
  among_kept x e [] = refl
  among_kept x e (y ∷ ys) = kept_by x y ys e (among_kept x e ys) (f y) refl

  filter_by : (y x : List ℕ) (t : Bool) (a b : List (List ℕ)) → a ≡ b ++ cond (f x) (x ∷ []) [] → cond t (y ∷ a) a ≡ cond t (y ∷ b) b ++ cond (f x) (x ∷ []) []
  filter_by y x true a b e = ap (λ l. y ∷ l) e
  filter_by y x false a b e = e

  filter-append : (ys : List (List ℕ)) (x : List ℕ) → filter f (ys ++ x ∷ []) ≡ filter f ys ++ cond (f x) (x ∷ []) []
  filter-append [] x = refl
  filter-append (y ∷ ys) x = filter_by y x (f y) (filter f (ys ++ x ∷ [])) (filter f ys) (filter-append ys x)

  append_nil : (l : List (List ℕ)) → l ++ [] ≡ l
  append_nil [] = refl
  append_nil (y ∷ l) = ap (λ m. y ∷ m) (append_nil l)

  pushed_kept : (x : List ℕ) (ys : List (List ℕ)) (t : Bool) → f x ≡ t → (a : Bool) → is_in_list x ys ≡ a
      → filter f (cond a (without_repeats ys) (without_repeats ys ++ x ∷ [])) ≡ cond t (with_path x (filter f (without_repeats ys)))
      (filter f (without_repeats ys))
  pushed_kept x ys true e true g =
      let n : is_in_list x (filter f (without_repeats ys)) ≡ true = among_kept x e (without_repeats ys) ∙ among_once x ys ∙ g in rw n refl
  pushed_kept x ys true e false g =
      let n : is_in_list x (filter f (without_repeats ys)) ≡ false = among_kept x e (without_repeats ys) ∙ among_once x ys
      ∙ g in rw n (filter-append (without_repeats ys) x ∙ rw e refl)
  pushed_kept x ys false e true g = refl
  pushed_kept x ys false e false g = filter-append (without_repeats ys) x ∙ rw e (append_nil (filter f (without_repeats ys)))

  -- the filtered paths without repeats, with one more path, are those before it with it appended if it passes and is new
  pub once_kept : (x : List ℕ) (ys : List (List ℕ))
      → filter f (without_repeats (x ∷ ys)) ≡ cond (f x) (with_path x (filter f (without_repeats ys))) (filter f (without_repeats ys))
  once_kept x ys = pushed_kept x ys (f x) refl (is_in_list x ys) refl

-- Names and their places.
use Rattle.std.proofs.Common.{not, ltb}
use Rattle.std.specs.Prelude.{is_some}
use Rattle.kc_expr.proofs.Common.{◌≡◌, ℕ, suc, zero, ◌+◌, ◌<◌, ◌≤◌, Bool, true, false, List, [], ◌∷◌, length, get_or, Option, Some, None, map, ◌++◌, ◌||◌, ◌⊎◌, inl, inr, length-append, refl, ap, sym, ◌∙◌, arith, cond, option_map, option_and_then, bytes_eq, bytes_eq-Decides, both_ways, cases_lt}
use Rattle.kc_expr.proofs.Common.{get_or-append_seam, get_or_append_left, map-append, list_any, AreDistinct, environment_of, with_name}
use Rattle.std.proofs.lemmas.Bool.{false_from_ne_true, or_parts, ltb-true, ltb-false, lt-ltb, le-ltb}
use Rattle.std.specs.List.{position_or_len, position}
use Rattle.kc_expr.specs.Expr.{SymbolValue}
use Rattle.kc_expr.specs.Lookup.{index_of_name}

same_bytes : (n : List ℕ) → bytes_eq n n ≡ true
same_bytes n = (bytes_eq-Decides n n).1 refl

other_bytes : (n m : List ℕ) → (n ≡ m → ⊥) → bytes_eq n m ≡ false
other_bytes n m ne = false_from_ne_true _ (λ e. ne ((bytes_eq-Decides n m).0 e))

tail_distinct : (n : List ℕ) (ns : List (List ℕ)) → AreDistinct (n ∷ ns) → AreDistinct ns
tail_distinct n ns d i j h k e = omega (arith, d (suc i) (suc j) (omega arith) (omega arith) e)

at_place : (t : Bool) (i : ℕ) (y : List ℕ) (o : Option ℕ) → t ≡ false → o ≡ Some i → cond t (Some 0) (option_map suc o) ≡ Some (suc i)
at_place t i y o e f = rw (e, f) refl

pub place_by : (b : Bool) (n m : ℕ) (o : Option ℕ) → o ≡ cond (ltb n m) (Some n) None → cond b (Some 0) (option_map suc o)
    ≡ cond (ltb (cond (not b) (1 + n) 0) (suc m)) (Some (cond (not b) (1 + n) 0)) None
place_by true n m o e = let t : ltb 0 (suc m) ≡ true = lt-ltb _ _ (omega arith) in rw t refl
place_by false n m o e = rw e (by_test (ltb n m) refl)
  where
    by_test : (t : Bool) → ltb n m ≡ t → option_map suc (cond t (Some n) None) ≡ cond (ltb (1 + n) (suc m)) (Some (1 + n)) None
    by_test true f = let l : n < m = ltb-true n m f in let g : ltb (1 + n) (suc m) ≡ true = lt-ltb _ _ (omega arith) in rw g (ap Some (omega arith))
    by_test false f = let l : m ≤ n = ltb-false n m f in let g : ltb (1 + n) (suc m) ≡ false = le-ltb _ _ (omega arith) in rw g refl

-- no name has a place in the empty list
pub place_of_none : (x : List ℕ) → index_of_name x [] ≡ None
unfolding index_of_name
place_of_none x = refl

-- the place of a name is 0 if it is the first of a list, else one more than its place among the others
pub place_of_more : (x y : List ℕ) (ys : List (List ℕ)) → index_of_name x (y ∷ ys) ≡ cond (bytes_eq x y) (Some 0) (option_map suc (index_of_name x ys))
unfolding index_of_name
place_of_more x y ys = sym (place_by (bytes_eq x y) (position_or_len (bytes_eq x) ys) (length ys) (index_of_name x ys) refl)

pub place_at : (names : List (List ℕ)) (i : ℕ) → AreDistinct names → i < length names → index_of_name (get_or names i []) names ≡ Some i
place_at [] i d h = absurd (omega arith)
place_at (n ∷ ns) zero d h = place_of_more n n ns ∙ rw (same_bytes n) refl
place_at (n ∷ ns) (suc i) d h = place_of_more (get_or ns i []) n ns ∙ at_place (bytes_eq (get_or ns i []) n) i n (index_of_name (get_or ns i []) ns)
    (other_bytes (get_or ns i []) n (λ e. omega (arith, d zero (suc i) (omega arith) h (sym e)))) (place_at ns i (tail_distinct n ns d) (omega arith))

-- a name at a place of a list in which no name occurs twice is found at that place
pub place_of_held : (names : List (List ℕ)) (i : ℕ) (x : List ℕ) → AreDistinct names → i < length names → get_or names i [] ≡ x → index_of_name x names ≡ Some i
place_of_held names i x d h e = ap (λ y. index_of_name y names) (sym e) ∙ place_at names i d h

pub seen_at : (names : List (List ℕ)) (i : ℕ) (symbol_values : ℕ → Option SymbolValue) → AreDistinct names → i < length names
    → environment_of names symbol_values (get_or names i []) ≡ symbol_values i
seen_at names i symbol_values d h = ap (option_and_then symbol_values) (place_at names i d h)

-- names that are held under keys
module _ {K : Type 0} (name : K → List ℕ) (x : List ℕ) where
  -- the place of a name among the names of keys is that of the first key with this name
  pub place-position : (ks : List K) → index_of_name x (map name ks) ≡ position (λ k. bytes_eq x (name k)) ks
  place-position [] = place_of_none x
  place-position (k ∷ ks) =
      place_of_more x (name k) (map name ks)
      ∙ place_by (bytes_eq x (name k)) (position_or_len (λ k. bytes_eq x (name k)) ks) (length ks) (index_of_name x (map name ks)) (place-position ks)

  held_by : (b : Bool) (n : ℕ) (o : Option ℕ) (r : Bool) → (r ≡ true → o ≡ Some n) → (b || r) ≡ true
      → cond b (Some 0) (option_map suc o) ≡ Some (cond (not b) (1 + n) 0)
  held_by true n o r f h = refl
  held_by false n o r f h = rw (f h) (ap Some (omega arith))

  held : (ks : List K) → list_any (λ k. bytes_eq x (name k)) ks ≡ true → index_of_name x (map name ks) ≡ Some (position_or_len (λ k. bytes_eq x (name k)) ks)
  held [] h = cc
  held (k ∷ ks) h = place_of_more x (name k) (map name ks)
      ∙ held_by (bytes_eq x (name k)) (position_or_len (λ k. bytes_eq x (name k)) ks) (index_of_name x (map name ks))
      (list_any (λ k. bytes_eq x (name k)) ks) (held ks) h

  new_last : (v : K) → name v ≡ x → (ks : List K) → list_any (λ k. bytes_eq x (name k)) ks ≡ false → index_of_name x (map name (ks ++ v ∷ []))
      ≡ Some (position_or_len (λ k. bytes_eq x (name k)) ks)
  new_last v e [] h = place_of_more x (name v) [] ∙ rw e (let t = same_bytes x in rw t refl)
  new_last v e (k ∷ ks) h =
      let (f, r) = or_parts (bytes_eq x (name k)) (list_any (λ k. bytes_eq x (name k)) ks) h in
      place_of_more x (name k) (map name (ks ++ v ∷ [])) ∙ rw (f, new_last v e ks r) (ap Some (omega arith))

  not_there : (ks : List K) → list_any (λ k. bytes_eq x (name k)) ks ≡ false → (i : ℕ) → i < length (map name ks) → get_or (map name ks) i [] ≡ x → ⊥
  not_there [] h i l e = omega arith
  not_there (k ∷ ks) h zero l e =
      let (f, r) = or_parts (bytes_eq x (name k)) (list_any (λ k. bytes_eq x (name k)) ks) h in
      both_ways (bytes_eq x (name k)) f ((bytes_eq-Decides x (name k)).1 (sym e))
  not_there (k ∷ ks) h (suc i) l e =
      let (f, r) = or_parts (bytes_eq x (name k)) (list_any (λ k. bytes_eq x (name k)) ks) h in
      not_there ks r i (omega arith) e

  push_distinct : (names : List (List ℕ)) → AreDistinct names → ((i : ℕ) → i < length names → get_or names i [] ≡ x → ⊥) → AreDistinct (names ++ x ∷ [])
  push_distinct names d n i j h k e = by_places (cases_lt i (length names)) (cases_lt j (length names))
    where
      long : length (names ++ x ∷ []) ≡ length names + 1
      long = length-append names (x ∷ [])

      last : (m : ℕ) → m < length (names ++ x ∷ []) → length names ≤ m → get_or (names ++ x ∷ []) m [] ≡ x
      last m l g = let q : m ≡ length names = omega (arith, length-append names (x ∷ [])) in rw q (get_or-append_seam names x [] [])

      by_places : (i < length names) ⊎ (length names ≤ i) → (j < length names) ⊎ (length names ≤ j) → i ≡ j
      by_places (inl a) (inl b) = d i j a b (sym (get_or_append_left names (x ∷ []) [] i a) ∙ e ∙ get_or_append_left names (x ∷ []) [] j b)
      by_places (inl a) (inr b) = absurd (n i a (sym (get_or_append_left names (x ∷ []) [] i a) ∙ e ∙ last j k b))
      by_places (inr a) (inl b) = absurd (n j b (sym (get_or_append_left names (x ∷ []) [] j b) ∙ sym e ∙ last i h a))
      by_places (inr a) (inr b) = omega (arith, length-append names (x ∷ []))

  -- a name that is added to a set is found at the place that the set has for it
  pub place_pushed : (v : K) → name v ≡ x → (ks : List K) → index_of_name x (map name (cond (list_any (λ k. bytes_eq x (name k)) ks) ks (ks ++ v ∷ [])))
      ≡ Some (position_or_len (λ k. bytes_eq x (name k)) ks)
  place_pushed v e ks = by_any (list_any (λ k. bytes_eq x (name k)) ks) refl
    where
      by_any : (b : Bool) → list_any (λ k. bytes_eq x (name k)) ks ≡ b → index_of_name x (map name (cond b ks (ks ++ v ∷ [])))
          ≡ Some (position_or_len (λ k. bytes_eq x (name k)) ks)
      by_any true h = held ks h
      by_any false h = new_last v e ks h

  some_by : (b : Bool) (o : Option ℕ) (r : Bool) → is_some o ≡ r → is_some (cond b (Some 0) (option_map suc o)) ≡ (b || r)
  some_by true o r e = refl
  some_by false None r e = e
  some_by false (Some i) r e = e

  has_place : (ks : List K) → is_some (index_of_name x (map name ks)) ≡ list_any (λ k. bytes_eq x (name k)) ks
  has_place [] = ap is_some (place_of_none x)
  has_place (k ∷ ks) =
      ap is_some (place_of_more x (name k) (map name ks))
      ∙ some_by (bytes_eq x (name k)) (index_of_name x (map name ks)) (list_any (λ k. bytes_eq x (name k)) ks) (has_place ks)

  -- the names of a set to which a name is added are those before, with the name appended unless the set had it
  pub names_pushed : (v : K) → name v ≡ x → (ks : List K) → map name (cond (list_any (λ k. bytes_eq x (name k)) ks) ks (ks ++ v ∷ []))
      ≡ with_name x (map name ks)
  names_pushed v e ks = by_any (list_any (λ k. bytes_eq x (name k)) ks) (has_place ks)
    where
      by_any : (b : Bool) → is_some (index_of_name x (map name ks)) ≡ b → map name (cond b ks (ks ++ v ∷ [])) ≡ with_name x (map name ks)
      by_any true h = rw h refl
      by_any false h = rw (h, map-append, e) refl

  -- where no name occurs twice in a set, none does after a name is added
  pub distinct_pushed : (v : K) → name v ≡ x → (ks : List K) → AreDistinct (map name ks) → AreDistinct
      (map name (cond (list_any (λ k. bytes_eq x (name k)) ks) ks (ks ++ v ∷ [])))
  distinct_pushed v e ks d = by_any (list_any (λ k. bytes_eq x (name k)) ks) refl
    where
      by_any : (b : Bool) → list_any (λ k. bytes_eq x (name k)) ks ≡ b → AreDistinct (map name (cond b ks (ks ++ v ∷ [])))
      by_any true h = d
      by_any false h = rw (map-append, e) (push_distinct (map name ks) d (not_there ks h))

-- the name at the place where it is found
place_tail : (o : Option ℕ) (i : ℕ) → option_map suc o ≡ Some i → (j : ℕ) × (o ≡ Some j) × (i ≡ suc j)
place_tail None i e = cc
place_tail (Some j) i e = (j, refl, cc)

first_place : (i : ℕ) → Some 0 ≡ Some i → i ≡ 0
first_place i e = cc

there_by : (b : Bool) (x n : List ℕ) (ns : List (List ℕ)) (i : ℕ) → ((j : ℕ) → index_of_name x ns ≡ Some j → (j < length ns) × (get_or ns j [] ≡ x))
    → bytes_eq x n ≡ b → cond b (Some 0) (option_map suc (index_of_name x ns)) ≡ Some i → (i < length (n ∷ ns)) × (get_or (n ∷ ns) i [] ≡ x)
there_by true x n ns i ih f g = let z = first_place i g in (omega (arith, z), rw z (sym ((bytes_eq-Decides x n).0 f)))
there_by false x n ns i ih f g = let (j, h, e) = place_tail (index_of_name x ns) i g in let r = ih j h in (omega (arith, r.0, e), rw e r.1)

pub place_there : (x : List ℕ) (names : List (List ℕ)) (i : ℕ) → index_of_name x names ≡ Some i → (i < length names) × (get_or names i [] ≡ x)
place_there x [] i e = let h = place_of_none x in cc
place_there x (n ∷ ns) i e = there_by (bytes_eq x n) x n ns i (place_there x ns) refl (sym (place_of_more x n ns) ∙ e)

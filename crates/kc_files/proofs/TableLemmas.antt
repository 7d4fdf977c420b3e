-- Tables by bytes, through the maps that hold them.
use Rattle.kc_files.proofs.Common.{◌≡◌, ℕ, Bool, true, false, cond, List, [], ◌∷◌, ◌++◌, map, Option, Some, None, refl, sym, ap, ◌∙◌, ◌⊎◌, inl, inr, subst, Vec, bytes_eq, option_map, is_some, OnOk, OnErr, IfOk, Result, Ok, Err, option_copied, Global, bytes_eq-Decides, lookup, insert_entry}
use Rattle.kc_files.proofs.Common.{keyword_in_table, seen_as}
use Rattle.std.specs.Borrow.{Bor}
use Rattle.std.proofs.lemmas.List.{map-append}
use Rattle.std.proofs.lemmas.Cmp.{nat_list_eq_equiv}

pub bytes_eq_turned : (x y : List ℕ) → bytes_eq x y ≡ bytes_eq y x
bytes_eq_turned = nat_list_eq_equiv.symm

pub bytes_eq_same : (x : List ℕ) → bytes_eq x x ≡ true
bytes_eq_same x = (bytes_eq-Decides x x).1 refl

pub copied_view : {X A : Type 0} (view : X → A) (o : Option (Bor X)) → option_map (λ (r : Bor X). view r.now) o ≡ option_map view (option_copied o)
copied_view view None = refl
copied_view view (Some r) = refl

abbrev pub itself : {X : Type 0} → X → X
itself x = x

pub some_copied : {X : Type 0} (o : Option (Bor X)) → is_some o ≡ is_some (option_copied o)
some_copied None = refl
some_copied (Some r) = refl

-- a property of a state holds after a call that changes the state only where it returns `Ok`, if it holds of the old and of the
-- changed state
pub by_result : {A E T : Type 0} (r : Result A E) (P : T → Type 0) (old grown new : T) → OnOk r (new ≡ grown) → OnErr r (new ≡ old) → P grown → P old → P new
by_result (Ok x) P old grown new e f g h = subst P (sym e) g
by_result (Err x) P old grown new e f g h = subst P (sym f) h

pub if_grown : {A E T : Type 0} (r : Result A E) (P : T → Type 0) (grown new : T) → OnOk r (new ≡ grown) → P grown → IfOk r (λ x. P new)
if_grown (Ok x) P grown new e g = subst P (sym e) g
if_grown (Err x) P grown new e g = tt

module _ {V A : Type 0} (view : V → A) where
  abbrev pub entry_view : Vec ℕ Global × V → List ℕ × A
  entry_view e = (e.0.items, view e.1)

  found_by : (b : Bool) (e : Vec ℕ Global × V) (o : Option V) → cond b (Some (view e.1)) (option_map view o) ≡ option_map view (cond b (Some e.1) o)
  found_by true e o = refl
  found_by false e o = refl

  -- the value found in the map of a table for a path is the one that is found in the table by the bytes of the path
  pub found : (path : List ℕ) (es : List (Vec ℕ Global × V)) → keyword_in_table (map entry_view es) path
      ≡ option_map view (lookup (λ (k : Vec ℕ Global). bytes_eq path k.items) es)
  found path [] = refl
  found path (e ∷ es) =
      ap (λ b. cond b (Some (view e.1)) (keyword_in_table (map entry_view es) path)) (bytes_eq_turned e.0.items path)
      ∙ ap (λ o. cond (bytes_eq path e.0.items) (Some (view e.1)) o) (found path es)
      ∙ found_by (bytes_eq path e.0.items) e (lookup (λ (k : Vec ℕ Global). bytes_eq path k.items) es)

  -- an entry of a key that a table doesn't have goes to the end of the table
  pub inserted_new : (es : List (Vec ℕ Global × V)) (k : Vec ℕ Global) (v : V) → keyword_in_table (map entry_view es) k.items ≡ None
      → map entry_view (insert_entry (λ (a b : Vec ℕ Global). bytes_eq a.items b.items) es k v) ≡ map entry_view es ++ (k.items, view v) ∷ []
  inserted_new [] k v h = refl
  inserted_new (e ∷ es) k v h = by_test (bytes_eq e.0.items k.items) (bytes_eq_turned k.items e.0.items) h (inserted_new es k v)
    where
      by_test : (b : Bool) → bytes_eq k.items e.0.items ≡ b → cond b (Some (view e.1)) (keyword_in_table (map entry_view es) k.items) ≡ None
          → (keyword_in_table (map entry_view es) k.items ≡ None → map entry_view (insert_entry (λ (a b : Vec ℕ Global). bytes_eq a.items b.items) es k v)
          ≡ map entry_view es ++ (k.items, view v) ∷ [])
          → map entry_view (cond (bytes_eq k.items e.0.items) ((e.0, v) ∷ es) (e ∷ insert_entry (λ (a b : Vec ℕ Global). bytes_eq a.items b.items) es k v))
          ≡ entry_view e ∷ (map entry_view es ++ (k.items, view v) ∷ [])
      by_test true e2 h ih = absurd (let z : ⊥ = cc in z)
      by_test false e2 h ih = ap (λ b. map entry_view (cond b ((e.0, v) ∷ es) (e ∷ insert_entry (λ (a b : Vec ℕ Global). bytes_eq a.items b.items) es k v))) e2
          ∙ ap (λ xs. entry_view e ∷ xs) (ih h)

module _ {A : Type 0} where
  -- what is found for a key in a table is found also with another entry at the end
  pub stays_found : (t : List (List ℕ × A)) (new : List ℕ × A) (key : List ℕ) (x : A) → keyword_in_table t key ≡ Some x
      → keyword_in_table (t ++ new ∷ []) key ≡ Some x
  stays_found [] new key x h = absurd (let z : ⊥ = cc in z)
  stays_found (e ∷ t) new key x h = by_test (bytes_eq e.0 key) (stays_found t new key x) h
    where
      by_test : (b : Bool) → (keyword_in_table t key ≡ Some x → keyword_in_table (t ++ new ∷ []) key ≡ Some x)
          → cond b (Some e.1) (keyword_in_table t key) ≡ Some x → cond b (Some e.1) (keyword_in_table (t ++ new ∷ []) key) ≡ Some x
      by_test true ih h = h
      by_test false ih h = ih h

  -- a key that a table doesn't have is found after its entry is added at the end
  pub new_found : (t : List (List ℕ × A)) (key : List ℕ) (x : A) → keyword_in_table t key ≡ None → keyword_in_table (t ++ (key, x) ∷ []) key ≡ Some x
  new_found [] key x h = ap (λ b. cond b (Some x) None) (bytes_eq_same key)
  new_found (e ∷ t) key x h = by_test (bytes_eq e.0 key) (new_found t key x) h
    where
      by_test : (b : Bool) → (keyword_in_table t key ≡ None → keyword_in_table (t ++ (key, x) ∷ []) key ≡ Some x)
          → cond b (Some e.1) (keyword_in_table t key) ≡ None → cond b (Some e.1) (keyword_in_table (t ++ (key, x) ∷ []) key) ≡ Some x
      by_test true ih h = absurd (let z : ⊥ = cc in z)
      by_test false ih h = ih h

  -- what is found in a table with one more entry at the end was found before, or is that entry's value under its key
  pub found_or_new : (t : List (List ℕ × A)) (key other : List ℕ) (x y : A) → keyword_in_table (t ++ (key, x) ∷ []) other ≡ Some y
      → (keyword_in_table t other ≡ Some y) ⊎ ((other ≡ key) × (y ≡ x))
  found_or_new [] key other x y h = by_test (bytes_eq key other) refl h
    where
      by_test : (b : Bool) → bytes_eq key other ≡ b → cond b (Some x) None ≡ Some y → (None ≡ Some y) ⊎ ((other ≡ key) × (y ≡ x))
      by_test true e h = inr (sym ((bytes_eq-Decides key other).0 e), cc)
      by_test false e h = inl h
  found_or_new (e ∷ t) key other x y h = by_test (bytes_eq e.0 other) (found_or_new t key other x y) h
    where
      by_test : (b : Bool) → (keyword_in_table (t ++ (key, x) ∷ []) other ≡ Some y → (keyword_in_table t other ≡ Some y) ⊎ ((other ≡ key) × (y ≡ x)))
          → cond b (Some e.1) (keyword_in_table (t ++ (key, x) ∷ []) other) ≡ Some y → (cond b (Some e.1) (keyword_in_table t other) ≡ Some y)
          ⊎ ((other ≡ key) × (y ≡ x))
      by_test true ih h = inl h
      by_test false ih h = ih h

-- tables with each value seen in another way
module _ {X A : Type 0} (view : X → A) where
  pub found_as : (t : List (List ℕ × X)) (key : List ℕ) → keyword_in_table (seen_as view t) key ≡ option_map view (keyword_in_table t key)
  found_as [] key = refl
  found_as (e ∷ t) key = ap (λ o. cond (bytes_eq e.0 key) (Some (view e.1)) o) (found_as t key) ∙ by_test (bytes_eq e.0 key)
    where
      by_test : (b : Bool) → cond b (Some (view e.1)) (option_map view (keyword_in_table t key)) ≡ option_map view (cond b (Some e.1) (keyword_in_table t key))
      by_test true = refl
      by_test false = refl

  pub seen_more : (t : List (List ℕ × X)) (key : List ℕ) (x : X) → seen_as view (t ++ (key, x) ∷ []) ≡ seen_as view t ++ (key, view x) ∷ []
  seen_more t key x = map-append (λ (e : List ℕ × X). (e.0, view e.1)) t ((key, x) ∷ [])

  pub not_found_as : (t : List (List ℕ × X)) (key : List ℕ) → keyword_in_table t key ≡ None → keyword_in_table (seen_as view t) key ≡ None
  not_found_as t key h = found_as t key ∙ ap (option_map view) h

  -- what is looked for in a table is there, or not, also where the table is seen in another way
  pub there_as : (o : Option (Bor X)) (t : List (List ℕ × X)) (key : List ℕ) → is_some o ≡ true → option_map (λ (r : Bor X). r.now) o ≡ keyword_in_table t key
      → keyword_in_table (seen_as view t) key ≡ None → ⊥
  there_as None t key s e h = let z : ⊥ = cc in z
  there_as (Some r) t key s e h = let f : Some (view r.now) ≡ None = ap (option_map view) e ∙ sym (found_as t key) ∙ h in let z : ⊥ = cc in z

  pub absent_as : (o : Option (Bor X)) (t : List (List ℕ × X)) (key : List ℕ) → is_some o ≡ false → option_map (λ (r : Bor X). r.now) o ≡ keyword_in_table t key
      → keyword_in_table (seen_as view t) key ≡ None
  absent_as None t key s e = not_found_as t key (sym e)
  absent_as (Some r) t key s e = absurd (let z : ⊥ = cc in z)

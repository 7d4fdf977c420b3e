-- Elements of lists, by their indices and through the functions that make lists.
use Rattle.kc_tree_model.proofs.Common.{◌≡◌, inl, inr, ◌⊎◌, ℕ, zero, suc, Bool, true, false, cond, List, [], ◌∷◌, ◌++◌, Option, Some, None, refl, ap, sym, ◌∙◌, subst, map, filter, length, ◌<◌, arith, slice_get, filter_map, flat_map, option_map, bytes_eq, ◌==◌, list_any, list_all, cons_option}
use Rattle.kc_tree_model.proofs.Common.{position_or_len, bytes_eq-Decides, eqb-true, eq-eqb, is_in_list, without_repeats}
use Rattle.std.specs.Prelude.{◌||◌, ◌&&◌}
use Rattle.kc_expr.proofs.Places.{place_by as place_after_one, place_of_more, place_of_none}
use Rattle.kc_expr.specs.Lookup.{index_of_name}
use Rattle.kc_tree_model.specs.Contents.{index_of_number}

-- a value is an element of a list
abbrev pub Has : {A : Type 0} → A → List A → Type 0
Has x [] = ⊥
Has x (y ∷ ys) = (y ≡ x) ⊎ Has x ys

pub has-at : {A : Type 0} (x : A) (xs : List A) (i : ℕ) → slice_get xs i ≡ Some x → Has x xs
has-at x [] i h = cc
has-at x (y ∷ ys) zero h = inl cc
has-at x (y ∷ ys) (suc i) h = inr (has-at x ys i h)

pub at-has : {A : Type 0} (x : A) (xs : List A) → Has x xs → (i : ℕ) × (slice_get xs i ≡ Some x)
at-has x [] h = absurd h
at-has x (y ∷ ys) (inl e) = (0, ap Some e)
at-has x (y ∷ ys) (inr h) = let r = at-has x ys h in (suc r.0, r.1)

pub has-append : {A : Type 0} (x : A) (xs ys : List A) → Has x (xs ++ ys) → Has x xs ⊎ Has x ys
has-append x [] ys h = inr h
has-append x (z ∷ zs) ys (inl e) = inl (inl e)
has-append x (z ∷ zs) ys (inr h) = elim (has-append x zs ys h) [ inl a ↦ inl (inr a) | inr b ↦ inr b ]

pub append-has_left : {A : Type 0} (x : A) (xs ys : List A) → Has x xs → Has x (xs ++ ys)
append-has_left x [] ys h = absurd h
append-has_left x (z ∷ zs) ys (inl e) = inl e
append-has_left x (z ∷ zs) ys (inr h) = inr (append-has_left x zs ys h)

pub append-has_right : {A : Type 0} (x : A) (xs ys : List A) → Has x ys → Has x (xs ++ ys)
append-has_right x [] ys h = h
append-has_right x (z ∷ zs) ys h = inr (append-has_right x zs ys h)

pub get-map : {A B : Type 0} (f : A → B) (xs : List A) (i : ℕ) (y : B) → slice_get (map f xs) i ≡ Some y → (x : A) × (slice_get xs i ≡ Some x) × (f x ≡ y)
get-map f [] i y h = cc
get-map f (x ∷ xs) zero y h = (x, refl, cc)
get-map f (x ∷ xs) (suc i) y h = get-map f xs i y h

pub map-get : {A B : Type 0} (f : A → B) (xs : List A) (i : ℕ) (x : A) → slice_get xs i ≡ Some x → slice_get (map f xs) i ≡ Some (f x)
map-get f [] i x h = cc
map-get f (y ∷ ys) zero x h = let e : y ≡ x = cc in ap (λ z. Some (f z)) e
map-get f (y ∷ ys) (suc i) x h = map-get f ys i x h

filter_by : {A : Type 0} (test : A → Bool) (y : A) (ys : List A) (x : A) (b : Bool) → test y ≡ b → (Has x (filter test ys) → Has x ys × (test x ≡ true))
    → Has x (cond b (y ∷ filter test ys) (filter test ys)) → Has x (y ∷ ys) × (test x ≡ true)
filter_by test y ys x true e ih (inl k) = (inl k, ap test (sym k) ∙ e)
filter_by test y ys x true e ih (inr k) = let r = ih k in (inr r.0, r.1)
filter_by test y ys x false e ih k = let r = ih k in (inr r.0, r.1)

pub has-filter : {A : Type 0} (test : A → Bool) (xs : List A) (x : A) → Has x (filter test xs) → Has x xs × (test x ≡ true)
has-filter test [] x h = absurd h
has-filter test (y ∷ ys) x h = filter_by test y ys x (test y) refl (has-filter test ys x) h

into_filter_by : {A : Type 0} (test : A → Bool) (y : A) (ys : List A) (x : A) (b : Bool) → test y ≡ b → test x ≡ true → (Has x ys → Has x (filter test ys))
    → Has x (y ∷ ys) → Has x (cond b (y ∷ filter test ys) (filter test ys))
into_filter_by test y ys x true e h ih (inl k) = inl k
into_filter_by test y ys x true e h ih (inr k) = inr (ih k)
into_filter_by test y ys x false e h ih (inl k) = let same : test y ≡ test x = ap test k in cc
into_filter_by test y ys x false e h ih (inr k) = ih k

pub filter-has : {A : Type 0} (test : A → Bool) (xs : List A) (x : A) → Has x xs → test x ≡ true → Has x (filter test xs)
filter-has test [] x h e = absurd h
filter-has test (y ∷ ys) x h e = into_filter_by test y ys x (test y) refl e (λ k. filter-has test ys x k e) h

filter_map_by : {A B : Type 0} (f : A → Option B) (x : A) (xs : List A) (y : B) (o : Option B) → f x ≡ o
    → (Has y (filter_map f xs) → (z : A) × Has z xs × (f z ≡ Some y)) → Has y (cons_option o (filter_map f xs)) → (z : A) × Has z (x ∷ xs) × (f z ≡ Some y)
filter_map_by f x xs y None e ih h = let r = ih h in (r.0, inr r.1, r.2)
filter_map_by f x xs y (Some w) e ih (inl k) = (x, inl refl, e ∙ ap Some k)
filter_map_by f x xs y (Some w) e ih (inr k) = let r = ih k in (r.0, inr r.1, r.2)

pub has-filter_map : {A B : Type 0} (f : A → Option B) (xs : List A) (y : B) → Has y (filter_map f xs) → (x : A) × Has x xs × (f x ≡ Some y)
has-filter_map f [] y h = absurd h
has-filter_map f (x ∷ xs) y h = filter_map_by f x xs y (f x) refl (has-filter_map f xs y) h

into_filter_map_by : {A B : Type 0} (f : A → Option B) (x : A) (xs : List A) (z : A) (y : B) (o : Option B) → f x ≡ o → f z ≡ Some y
    → (Has z xs → Has y (filter_map f xs)) → Has z (x ∷ xs) → Has y (cons_option o (filter_map f xs))
into_filter_map_by f x xs z y None e h ih (inl k) = let same : f x ≡ f z = ap f k in cc
into_filter_map_by f x xs z y None e h ih (inr k) = ih k
into_filter_map_by f x xs z y (Some w) e h ih (inl k) = let same : f x ≡ f z = ap f k in inl cc
into_filter_map_by f x xs z y (Some w) e h ih (inr k) = inr (ih k)

pub filter_map-has : {A B : Type 0} (f : A → Option B) (xs : List A) (x : A) (y : B) → Has x xs → f x ≡ Some y → Has y (filter_map f xs)
filter_map-has f [] x y h e = absurd h
filter_map-has f (w ∷ ws) x y h e = into_filter_map_by f w ws x y (f w) refl e (λ k. filter_map-has f ws x y k e) h

-- the first element of a `filter_map` is what the function gives for some element of the list
pub first_of_filter_map : {A B : Type 0} (f : A → Option B) (xs : List A) (y : B) → slice_get (filter_map f xs) 0 ≡ Some y → (x : A) × Has x xs × (f x ≡ Some y)
first_of_filter_map f xs y h = has-filter_map f xs y (has-at y (filter_map f xs) 0 h)

-- a list with an element has a first
pub first_of_some : {A : Type 0} (xs : List A) (x : A) → Has x xs → (y : A) × (slice_get xs 0 ≡ Some y)
first_of_some [] x h = absurd h
first_of_some (y ∷ ys) x h = (y, refl)

-- a test that each element of a list passes gives true as `list_all`
pub all_pass : {A : Type 0} (test : A → Bool) (xs : List A) → ((x : A) → Has x xs → test x ≡ true) → list_all test xs ≡ true
all_pass test [] h = refl
all_pass test (x ∷ xs) h = pass_both (test x) (list_all test xs) (h x (inl refl)) (all_pass test xs (λ y k. h y (inr k)))
  where
    pass_both : (a b : Bool) → a ≡ true → b ≡ true → (a && b) ≡ true
    pass_both true b e k = k
    pass_both false b e k = cc

-- an element of a `flat_map` is an element of what the function gives for some element of the list
pub has_flat_map : {A B : Type 0} (f : A → List B) (xs : List A) (y : B) → Has y (flat_map f xs) → (x : A) × Has x xs × Has y (f x)
has_flat_map f [] y h = absurd h
has_flat_map f (x ∷ xs) y h =
    elim (has-append y (f x) (flat_map f xs) h) [ inl a ↦ (x, inl refl, a) | inr b ↦ let r = has_flat_map f xs y b in (r.0, inr r.1, r.2) ]

-- the index of an element of a list is below the list's length
pub get_below : {A : Type 0} (xs : List A) (i : ℕ) (x : A) → slice_get xs i ≡ Some x → i < length xs
get_below [] i x h = cc
get_below (y ∷ ys) zero x h = omega arith
get_below (y ∷ ys) (suc i) x h = let k : i < length ys = get_below ys i x h in omega arith

-- a number that `list_any` finds in a list of numbers is an element of it
pub has-any : (n : ℕ) (ks : List ℕ) → list_any (λ k. k == n) ks ≡ true → Has n ks
has-any n [] h = cc
has-any n (k ∷ ks) h = any_by (k == n) refl h (has-any n ks)
  where
    any_by : (b : Bool) → (k == n) ≡ b → (b || list_any (λ k. k == n) ks) ≡ true → (list_any (λ k. k == n) ks ≡ true → Has n ks) → Has n (k ∷ ks)
    any_by true e h ih = inl (eqb-true k n e)
    any_by false e h ih = inr (ih h)

any_first : (a b : Bool) → a ≡ true → (a || b) ≡ true
any_first true b e = refl
any_first false b e = cc

any_later : (a b : Bool) → b ≡ true → (a || b) ≡ true
any_later true b e = refl
any_later false b e = e

pub any-has : (n : ℕ) (ks : List ℕ) → Has n ks → list_any (λ k. k == n) ks ≡ true
any-has n [] h = absurd h
any-has n (k ∷ ks) (inl e) = any_first (k == n) _ (eq-eqb k n e)
any-has n (k ∷ ks) (inr h) = any_later (k == n) _ (any-has n ks h)

-- texts that `bytes_eq` finds equal are equal
pub same_text : (x y : List ℕ) → bytes_eq x y ≡ true → x ≡ y
same_text x y h = (bytes_eq-Decides x y).0 h

pub text_same : (x y : List ℕ) → x ≡ y → bytes_eq x y ≡ true
text_same x y e = (bytes_eq-Decides x y).1 e

first_is_not_later : (i : ℕ) → Some 0 ≡ Some (suc i) → ⊥
first_is_not_later i h = let e : 0 ≡ suc i = cc in omega arith

one_less : (i j : ℕ) → Some (suc i) ≡ Some (suc j) → Some i ≡ Some j
one_less i j h = let e : suc i ≡ suc j = cc in ap Some (omega arith)

place_by : (x y : List ℕ) (ys : List (List ℕ)) (b : Bool) (o : Option ℕ) (i : ℕ) → bytes_eq x y ≡ b → ((j : ℕ) → o ≡ Some j → slice_get ys j ≡ Some x)
    → cond b (Some 0) (option_map suc o) ≡ Some i → slice_get (y ∷ ys) i ≡ Some x
place_by x y ys true o zero e ih h = ap Some (sym (same_text x y e))
place_by x y ys true o (suc i) e ih h = absurd (first_is_not_later i h)
place_by x y ys false None i e ih h = cc
place_by x y ys false (Some j) zero e ih h = absurd (first_is_not_later j (sym h))
place_by x y ys false (Some j) (suc i) e ih h = ih i (one_less j i h)

-- the list has the text at the index that `index_of_name` gives for it
pub place-get : (x : List ℕ) (ys : List (List ℕ)) (i : ℕ) → index_of_name x ys ≡ Some i → slice_get ys i ≡ Some x
place-get x [] i h = let n = place_of_none x in cc
place-get x (y ∷ ys) i h = place_by x y ys (bytes_eq x y) (index_of_name x ys) i refl (λ j k. place-get x ys j k)
    (sym (place_of_more x y ys) ∙ h)

has_place_by : (b : Bool) (o : Option ℕ) (i : ℕ) → o ≡ Some i → (j : ℕ) × (cond b (Some 0) (option_map suc o) ≡ Some j)
has_place_by true o i e = (0, refl)
has_place_by false o i e = (suc i, ap (option_map suc) e)

first_place : (b : Bool) (o : Option ℕ) → b ≡ true → cond b (Some 0) (option_map suc o) ≡ Some 0
first_place true o e = refl
first_place false o e = cc

-- a text that is an element of a list has an index by `index_of_name`
pub has-place : (x : List ℕ) (ys : List (List ℕ)) → Has x ys → (i : ℕ) × (index_of_name x ys ≡ Some i)
has-place x [] h = absurd h
has-place x (y ∷ ys) (inl e) = (0, place_of_more x y ys ∙ first_place (bytes_eq x y) (index_of_name x ys) (text_same x y (sym e)))
has-place x (y ∷ ys) (inr h) = let r = has-place x ys h in
    let s = has_place_by (bytes_eq x y) (index_of_name x ys) r.0 r.1 in
    (s.0, place_of_more x y ys ∙ s.1)

-- no element of a list occurs in it twice
abbrev pub Differ : {A : Type 0} → List A → Type 0
Differ [] = Unit {0}
Differ (x ∷ xs) = (Has x xs → ⊥) × Differ xs

pub at_most_once : {A : Type 0} (x : A) (xs : List A) (i j : ℕ) → Differ xs → slice_get xs i ≡ Some x → slice_get xs j ≡ Some x → i ≡ j
at_most_once x [] i j d h k = cc
at_most_once x (y ∷ ys) zero zero d h k = refl
at_most_once x (y ∷ ys) zero (suc j) d h k = let e : y ≡ x = cc in absurd (d.0 (subst (λ z. Has z ys) (sym e) (has-at x ys j k)))
at_most_once x (y ∷ ys) (suc i) zero d h k = let e : y ≡ x = cc in absurd (d.0 (subst (λ z. Has z ys) (sym e) (has-at x ys i h)))
at_most_once x (y ∷ ys) (suc i) (suc j) d h k = ap suc (at_most_once x ys i j d.1 h k)

pub Differ-append : {A : Type 0} (xs : List A) (x : A) → Differ xs → (Has x xs → ⊥) → Differ (xs ++ x ∷ [])
Differ-append [] x d n = ((λ h. h), tt)
Differ-append (y ∷ ys) x d n = (
  (λ h. elim (has-append y ys (x ∷ []) h) [ inl a ↦ d.0 a | inr b ↦ elim b [ inl e ↦ n (inl (sym e)) | inr e ↦ e ] ]),
  Differ-append ys x d.1
      (λ h. n (inr h)),
)

-- each name once
among-has : (x : List ℕ) (xs : List (List ℕ)) → Has x xs → is_in_list x xs ≡ true
among-has x [] h = absurd h
among-has x (y ∷ ys) (inl e) = any_first (bytes_eq y x) _ (text_same y x e)
among-has x (y ∷ ys) (inr h) = any_later (bytes_eq y x) _ (among-has x ys h)

has-among : (x : List ℕ) (xs : List (List ℕ)) → is_in_list x xs ≡ true → Has x xs
has-among x [] h = cc
has-among x (y ∷ ys) h = among_by (bytes_eq y x) refl h (has-among x ys)
  where
    among_by : (b : Bool) → bytes_eq y x ≡ b → (b || is_in_list x ys) ≡ true → (is_in_list x ys ≡ true → Has x ys) → Has x (y ∷ ys)
    among_by true e h ih = inl (same_text y x e)
    among_by false e h ih = inr (ih h)

once_by : (x y : List ℕ) (xs : List (List ℕ)) (b : Bool) → (Has y (without_repeats xs) → Has y xs)
    → Has y (cond b (without_repeats xs) (without_repeats xs ++ x ∷ [])) → Has y (x ∷ xs)
once_by x y xs true ih h = inr (ih h)
once_by x y xs false ih h = elim (has-append y (without_repeats xs) (x ∷ []) h) [ inl a ↦ inr (ih a) | inr b ↦ elim b [ inl e ↦ inl e | inr e ↦ absurd e ] ]

pub has-once : (y : List ℕ) (xs : List (List ℕ)) → Has y (without_repeats xs) → Has y xs
has-once y [] h = h
has-once y (x ∷ xs) h = once_by x y xs (is_in_list x xs) (has-once y xs) h

into_once_by : (x y : List ℕ) (xs : List (List ℕ)) (b : Bool) → is_in_list x xs ≡ b → (Has y xs → Has y (without_repeats xs)) → Has y (x ∷ xs)
    → Has y (cond b (without_repeats xs) (without_repeats xs ++ x ∷ []))
into_once_by x y xs true e ih (inl k) = ih (subst (λ z. Has z xs) k (has-among x xs e))
into_once_by x y xs true e ih (inr k) = ih k
into_once_by x y xs false e ih (inl k) = append-has_right y (without_repeats xs) (x ∷ []) (inl k)
into_once_by x y xs false e ih (inr k) = append-has_left y (without_repeats xs) (x ∷ []) (ih k)

pub once-has : (y : List ℕ) (xs : List (List ℕ)) → Has y xs → Has y (without_repeats xs)
once-has y [] h = h
once-has y (x ∷ xs) h = into_once_by x y xs (is_in_list x xs) refl (once-has y xs) h

differ_by : (x : List ℕ) (xs : List (List ℕ)) (b : Bool) → is_in_list x xs ≡ b → Differ (without_repeats xs)
    → Differ (cond b (without_repeats xs) (without_repeats xs ++ x ∷ []))
differ_by x xs true e d = d
differ_by x xs false e d = Differ-append (without_repeats xs) x d (λ h. let k : is_in_list x xs ≡ true = among-has x xs (has-once x xs h) in cc)

pub Differ-once : (xs : List (List ℕ)) → Differ (without_repeats xs)
Differ-once [] = tt
Differ-once (x ∷ xs) = differ_by x xs (is_in_list x xs) refl (Differ-once xs)

-- the place of a number among numbers
number_by : (n k : ℕ) (ks : List ℕ) (b : Bool) (o : Option ℕ) (i : ℕ) → (k == n) ≡ b → ((j : ℕ) → o ≡ Some j → slice_get ks j ≡ Some n)
    → cond b (Some 0) (option_map suc o) ≡ Some i → slice_get (k ∷ ks) i ≡ Some n
number_by n k ks true o zero e ih h = ap Some (eqb-true k n e)
number_by n k ks true o (suc i) e ih h = absurd (first_is_not_later i h)
number_by n k ks false None i e ih h = cc
number_by n k ks false (Some j) zero e ih h = absurd (first_is_not_later j (sym h))
number_by n k ks false (Some j) (suc i) e ih h = ih i (one_less j i h)

pub number_of_none : (n : ℕ) → index_of_number n [] ≡ None
unfolding index_of_number
number_of_none n = refl

pub number_of_more : (n k : ℕ) (ks : List ℕ) → index_of_number n (k ∷ ks) ≡ cond (k == n) (Some 0) (option_map suc (index_of_number n ks))
unfolding index_of_number
number_of_more n k ks = sym (place_after_one (k == n) (position_or_len (λ j. j == n) ks) (length ks) (index_of_number n ks) refl)

pub number-get : (n : ℕ) (ks : List ℕ) (i : ℕ) → index_of_number n ks ≡ Some i → slice_get ks i ≡ Some n
number-get n [] i h = let e = number_of_none n in cc
number-get n (k ∷ ks) i h = number_by n k ks (k == n) (index_of_number n ks) i refl (λ j e. number-get n ks j e) (sym (number_of_more n k ks) ∙ h)

pub has-number : (n : ℕ) (ks : List ℕ) → Has n ks → (i : ℕ) × (index_of_number n ks ≡ Some i)
has-number n [] h = absurd h
has-number n (k ∷ ks) (inl e) = (0, number_of_more n k ks ∙ first_place (k == n) (index_of_number n ks) (eq-eqb k n e))
has-number n (k ∷ ks) (inr h) =
    let r = has-number n ks h in
    let s = has_place_by (k == n) (index_of_number n ks) r.0 r.1 in
    (s.0, number_of_more n k ks ∙ s.1)

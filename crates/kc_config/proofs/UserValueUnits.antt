-- The units that have user values after changes.
use Rattle.std.proofs.Common.{◌≢◌, ◌⊎◌, Bool, IfSome}
use Rattle.std.specs.Prelude.{slice_set, slice_index_or, replicate}
use Rattle.kc_config.proofs.Common.{◌≡◌, inl, inr, ℕ, zero, suc, ◌<◌, true, false, cond, IsTrue, List, [], ◌∷◌, ◌++◌, length, Option, Some, None, refl, sym, ◌∙◌, ap, subst, arith, slice_get, Contains, filter, cases_eq, length-set, Tree, changed_users, FitsChanges, user_of, FitsUsers, UserValue}
use Rattle.kc_config.proofs.Common.{user_fits, empty_assignment, merged_users, FitsTree, changes_of, users_of, length_changed, none_length, units_of, clears_of}
use Rattle.std.proofs.lemmas.List.{get_or-set_other}
use Rattle.kc_solver.proofs.Lists.{none_fits}
use Rattle.kc_solver.proofs.UserChanges.{changed_fits}
use Rattle.kc_dotconfig_model.proofs.MergedUsers.{over_none}

pub changed_both : (a b : List (ℕ × Option UserValue)) (users : List (Option UserValue)) → changed_users (a ++ b) users
    ≡ changed_users b (changed_users a users)
changed_both [] b users = refl
changed_both (c ∷ a) b users = changed_both a b (slice_set users c.0 c.1)

-- the changes of a list with one user value appended are those of the list and then this one
pub assigned_push : (es : List (ℕ × UserValue)) (a : ℕ × UserValue) (users : List (Option UserValue))
    → changed_users (changes_of (es ++ a ∷ [])) users ≡ slice_set (changed_users (changes_of es) users) a.0 (Some a.1)
assigned_push [] a users = refl
assigned_push (e ∷ es) a users = assigned_push es a (slice_set users e.0 (Some e.1))

-- a list contains its first element
pub first_in : (x : ℕ) (xs : List ℕ) → Contains (x ∷ xs) x
first_in x xs = (0, omega arith, refl)

pub later_in : (x y : ℕ) (xs : List ℕ) → Contains xs y → Contains (x ∷ xs) y
later_in x y xs (k, h, is) = (suc k, omega (arith, h), is)

-- a unit with a user value after changes is one of the changed units, or had a user value before
pub given_or_had : (es : List (ℕ × UserValue)) (users : List (Option UserValue)) (u : ℕ) (x : UserValue)
    → user_of (changed_users (changes_of es) users) u ≡ Some x
    → Contains (units_of es) u ⊎ ((y : UserValue) × (user_of users u ≡ Some y))
given_or_had [] users u x e = inr (x, e)
given_or_had (a ∷ es) users u x e = elim (given_or_had es (slice_set users a.0 (Some a.1)) u x e) [
  | inl given ↦ inl (later_in a.0 u (units_of es) given)
  | inr had ↦ elim (cases_eq u a.0) [
    | inl same ↦ inl (subst (λ w. Contains (a.0 ∷ units_of es) w) (sym same) (first_in a.0 (units_of es)))
    | inr other ↦ inr (had.0, sym (get_or-set_other users a.0 u (Some a.1) None other) ∙ had.1)
  ]
]

-- nothing is left once all units with user values are cleared
no_user : (n u : ℕ) → user_of {X = UserValue} (replicate n None) u ≡ None
no_user zero u = refl
no_user (suc n) zero = refl
no_user (suc n) (suc u) = no_user n u

pub none_held : (n u : ℕ) (x : UserValue) → user_of (replicate n None) u ≡ Some x → ⊥
none_held n u x e = let none = no_user n u in cc

all_none : (users : List (Option UserValue)) → ((u : ℕ) (x : UserValue) → user_of users u ≡ Some x → ⊥) → users ≡ replicate (length users) None
all_none [] h = refl
all_none (None ∷ users) h = ap (λ l. None ∷ l) (all_none users (λ u x e. h (suc u) x e))
all_none (Some y ∷ users) h = absurd (h 0 y refl)

pub cleared : (units : List ℕ) (users : List (Option UserValue)) → ((u : ℕ) (x : UserValue) → user_of users u ≡ Some x → Contains units u)
    → changed_users (clears_of units) users ≡ replicate (length users) None
cleared [] users covers = all_none users (λ u x e. none_in u (covers u x e)) where
  none_in : (u : ℕ) → Contains {X = ℕ} [] u → ⊥
  none_in u (k, h, is) = omega (arith, h)
cleared (w ∷ units) users covers = cleared units (slice_set users w None) rest ∙ ap (λ n. replicate n None) (length-set users w None) where
  contained_in_tail : (u : ℕ) → u ≢ w → Contains (w ∷ units) u → Contains units u
  contained_in_tail u other (zero, h, is) = absurd (other (sym is))
  contained_in_tail u other (suc k, h, is) = (k, omega (arith, h), is)

  set_none : (l : List (Option UserValue)) → user_of (slice_set l w None) w ≡ None
  set_none l = go l w where
    go : (l : List (Option UserValue)) (k : ℕ) → user_of (slice_set l k None) k ≡ None
    go [] k = refl
    go (x ∷ l) zero = refl
    go (x ∷ l) (suc k) = go l k

  rest : (u : ℕ) (x : UserValue) → user_of (slice_set users w None) u ≡ Some x → Contains units u
  rest u x e = elim (cases_eq u w) [
    | inl same ↦ (let none = set_none users in let here : user_of (slice_set users w None) w ≡ Some x = subst (λ k. user_of (slice_set users w None) k ≡ Some x)
        same e in cc)
    | inr other ↦ contained_in_tail u other (covers u x (sym (get_or-set_other users w u None None other) ∙ e))
  ]

-- the assignment of a list's user values alone is its own overlay over the empty assignment
over_empty : (users : List (Option UserValue)) → merged_users users (replicate (length users) None) ≡ users
over_empty [] = refl
over_empty (None ∷ users) = ap (λ l. None ∷ l) (over_empty users)
over_empty (Some x ∷ users) = ap (λ y. Some y ∷ merged_users users (replicate (length users) None)) (over_none x) ∙ ap (λ l. Some x ∷ l) (over_empty users)

pub lies_alone : (tree : Tree) (es : List (ℕ × UserValue)) → users_of tree es ≡ merged_users (users_of tree es) (empty_assignment tree)
lies_alone tree es =
    sym (over_empty (users_of tree es))
    ∙ ap (λ n. merged_users (users_of tree es) (replicate n None)) (length_changed es (empty_assignment tree) ∙ none_length (length tree.units))

-- fitting user values are fitting changes
same_pair : (p q : ℕ × Option UserValue) → Some p ≡ Some q → p ≡ q
same_pair p q e = cc

at_of : (assigns : List (ℕ × UserValue)) (k u : ℕ) (x : Option UserValue) → slice_get (changes_of assigns) k ≡ Some (u, x)
    → (y : UserValue) × (slice_get assigns k ≡ Some (u, y)) × (x ≡ Some y)
at_of [] k u x e = cc
at_of (a ∷ assigns) zero u x e =
    let both = same_pair (a.0, Some a.1) (u, x) e in
    let first : a.0 ≡ u = ap (λ (p : ℕ × Option UserValue). p.0) both in
    let second : Some a.1 ≡ x = ap (λ (p : ℕ × Option UserValue). p.1) both in
    (a.1, ap (λ (v : ℕ). Some (v, a.1)) first, sym second)
at_of (a ∷ assigns) (suc k) u x e = at_of assigns k u x e

pub fits_changes : (tree : Tree) (es : List (ℕ × UserValue)) → FitsTree tree es
    → FitsChanges (length tree.units) (λ u x. IsTrue (user_fits tree u x)) (changes_of es)
fits_changes tree es f k u x e =
    let at = at_of es k u x e in
    let each = f.each k u at.0 at.1 in
    (each.0, subst (λ o. IfSome o (λ y. IsTrue (user_fits tree u y))) (sym at.2) each.1)

-- the assignment of user values that fit the tree fits the tree
pub users_fit : (tree : Tree) (es : List (ℕ × UserValue)) → FitsTree tree es
    → FitsUsers (length tree.units) (λ u x. IsTrue (user_fits tree u x)) (users_of tree es)
users_fit tree es f =
    changed_fits (length tree.units) (λ u x. IsTrue (user_fits tree u x)) (changes_of es) (empty_assignment tree) (fits_changes tree es f)
    (none_fits (λ u x. IsTrue (user_fits tree u x)) (empty_assignment tree) (length tree.units) (length tree.units) refl refl)

-- removing the user values of units below `size` and then making fitting changes are together fitting changes
pub fits_both : (size : ℕ) (fits : ℕ → UserValue → Type 0) (units : List ℕ) (b : List (ℕ × Option UserValue)) → ((u : ℕ) → Contains units u → u < size)
    → FitsChanges size fits b → FitsChanges size fits (clears_of units ++ b)
fits_both size fits [] b within f k u x e = f k u x e
fits_both size fits (w ∷ units) b within f zero u x e =
    let both = same_pair (w, None) (u, x) e in
    let first : w ≡ u = ap (λ (p : ℕ × Option UserValue). p.0) both in
    let second : None ≡ x = ap (λ (p : ℕ × Option UserValue). p.1) both in
    (subst (λ v. v < size) first (within w (first_in w units)), subst (λ o. IfSome o (fits u)) second tt)
fits_both size fits (w ∷ units) b within f (suc k) u x e = fits_both size fits units b (λ v c. within v (later_in w v units c)) f k u x e

-- the units of fitting user values are units
unit_at : (es : List (ℕ × UserValue)) (k u : ℕ) → k < length (units_of es) → slice_index_or (units_of es) k u ≡ u
    → (x : UserValue) × (slice_get es k ≡ Some (u, x))
unit_at [] k u h e = absurd (omega (arith, h))
unit_at (a ∷ es) zero u h e = (a.1, ap (λ (v : ℕ). Some (v, a.1)) e)
unit_at (a ∷ es) (suc k) u h e = unit_at es k u (omega (arith, h)) e

pub units_within : (tree : Tree) (es : List (ℕ × UserValue)) → FitsTree tree es → (u : ℕ) → Contains (units_of es) u → u < length tree.units
units_within tree es f u (k, h, is) = let at = unit_at es k u h is in (f.each k u at.0 at.1).0

-- an element of a list is contained in the list with another one appended
pub in_front : (xs ys : List ℕ) (u : ℕ) → Contains xs u → Contains (xs ++ ys) u
in_front [] ys u (k, h, is) = absurd (omega (arith, h))
in_front (x ∷ xs) ys u (zero, h, is) = (0, omega arith, is)
in_front (x ∷ xs) ys u (suc k, h, is) = later_in x u (xs ++ ys) (in_front xs ys u (k, omega (arith, h), is))

pub in_back : (xs ys : List ℕ) (u : ℕ) → Contains ys u → Contains (xs ++ ys) u
in_back [] ys u c = c
in_back (x ∷ xs) ys u c = later_in x u (xs ++ ys) (in_back xs ys u c)

pub in_either : (xs ys : List ℕ) (u : ℕ) → Contains (xs ++ ys) u → Contains xs u ⊎ Contains ys u
in_either [] ys u c = inr c
in_either (x ∷ xs) ys u (zero, h, is) = inl (0, omega arith, is)
in_either (x ∷ xs) ys u (suc k, h, is) = elim (in_either xs ys u (k, omega (arith, h), is)) [ inl a ↦ inl (later_in x u xs a) | inr b ↦ inr b ]

pub in_filter : (p : ℕ → Bool) (xs : List ℕ) (u : ℕ) → p u ≡ true → Contains xs u → Contains (filter p xs) u
in_filter p [] u pass (k, h, is) = absurd (omega (arith, h))
in_filter p (x ∷ xs) u pass (zero, h, is) =
    subst (λ (t : Bool). Contains (cond t (x ∷ filter p xs) (filter p xs)) u) (sym (ap p is ∙ pass)) (0, omega arith, is)
in_filter p (x ∷ xs) u pass (suc k, h, is) = go (p x) (in_filter p xs u pass (k, omega (arith, h), is)) where
  go : (t : Bool) → Contains (filter p xs) u → Contains (cond t (x ∷ filter p xs) (filter p xs)) u
  go true c = later_in x u (filter p xs) c
  go false c = c

pub of_filter : (p : ℕ → Bool) (xs : List ℕ) (u : ℕ) → Contains (filter p xs) u → Contains xs u
of_filter p [] u (k, h, is) = absurd (omega (arith, h))
of_filter p (x ∷ xs) u c = go (p x) (of_filter p xs u) c where
  go : (t : Bool) → (Contains (filter p xs) u → Contains xs u) → Contains (cond t (x ∷ filter p xs) (filter p xs)) u → Contains (x ∷ xs) u
  go true rest (zero, h, is) = (0, omega arith, is)
  go true rest (suc k, h, is) = later_in x u xs (rest (k, omega (arith, h), is))
  go false rest c = later_in x u xs (rest c)

-- Lists of changes of user values, and the units that they change.
use Rattle.kc_solver.proofs.Common.{◌≡◌, ◌≢◌, ◌⊎◌, ◌↔◌, inl, inr, ℕ, suc, ◌<◌, Bool, true, false, List, [], ◌∷◌, ◌++◌, length, set, length-set, refl, sym, ◌∙◌, ap, arith, Option, None, Some, slice_get, IfSome, cases_eq, cases_lt, false≢true, slice_get_within, get_or-set_same, get_or-set_other}
use Rattle.kc_solver.proofs.Common.{changed_users, IsCountOf, IsOrder, undone, ListsChanged, ArePlaces, IsDue, user_of, FitsUsers, Solves}
use Rattle.std.proofs.lemmas.Option.{slice_get_past}
use Rattle.kc_solver.specs.Changes.{FitsChanges, IsTouched}
use Rattle.kc_solver.proofs.OrderPlaces.{short_order}
use Rattle.kc_solver.proofs.Revisions.{from_not_not}

-- one more change at the end is written after all others
pub changed_push : {X : Type 0} (changes : List (ℕ × Option X)) (change : ℕ × Option X) (users : List (Option X))
    → changed_users (changes ++ change ∷ []) users ≡ set (changed_users changes users) change.0 change.1
changed_push [] change users = refl
changed_push (c ∷ changes) change users = changed_push changes change (set users c.0 c.1)

-- a user value that is written for a unit is the one read back
pub user_set_same : {X : Type 0} (users : List (Option X)) (u : ℕ) (x : Option X) → u < length users → user_of (set users u x) u ≡ x
user_set_same {X} users u x h = get_or-set_same {A = Option X} users u x None h

pub user_set_other : {X : Type 0} (users : List (Option X)) (u w : ℕ) (x : Option X) → w ≢ u → user_of (set users u x) w ≡ user_of users w
user_set_other {X} users u w x h = get_or-set_other {A = Option X} users u w x None h

set_fits : {X : Type 0} (size : ℕ) (fits : ℕ → X → Type 0) (users : List (Option X)) (u : ℕ) (x : Option X) → u < size → IfSome x (fits u)
    → FitsUsers size fits users → FitsUsers size fits (set users u x)
set_fits size fits users u x inside fit fitting = (
  length-set users u x ∙ fitting.0,
  λ w h. elim (cases_eq w u) [
    | inl same ↦
        let here : user_of (set users u x) w ≡ x = ap (user_of (set users u x)) same ∙ user_set_same users u x (omega (arith, fitting.0)) in
        rw (here, same) fit
    | inr other ↦ rw (user_set_other users u w x other) (fitting.1 w h)
  ],
)

-- an assignment that fits still does after fitting changes
pub changed_fits : {X : Type 0} (size : ℕ) (fits : ℕ → X → Type 0) (changes : List (ℕ × Option X)) (users : List (Option X)) → FitsChanges size fits changes
    → FitsUsers size fits users → FitsUsers size fits (changed_users changes users)
changed_fits size fits [] users fit fitting = fitting
changed_fits size fits (c ∷ changes) users fit fitting =
    let first = fit 0 c.0 c.1 refl in
    changed_fits size fits changes (set users c.0 c.1) (λ k u x e. fit (suc k) u x e) (set_fits size fits users c.0 c.1 first.0 first.1 fitting)

pub length-undone : {A : Type 0} (log : List (ℕ × A)) (values : List A) → length (undone log values) ≡ length values
length-undone [] values = refl
length-undone (entry ∷ log) values = length-set (undone log values) entry.0 entry.1 ∙ length-undone log values

-- with one logged user value more restored, a unit's place is pending exactly if its user value differs from the restored one
pub lists_back : {X : Type 0} (places : List ℕ) (users before : List (Option X)) (pending next : ℕ → Bool) (u p : ℕ) (was : Option X) → u < length before
    → slice_get places u ≡ Some p
    → ((v w q : ℕ) → slice_get places v ≡ Some q → slice_get places w ≡ Some q → v ≡ w)
    → (next p ≡ true) ↔ (was ≢ user_of users u) → ((q : ℕ) → q ≢ p → next q ≡ pending q)
    → ListsChanged places users before pending → ListsChanged places users (set before u was) next
lists_back places users before pending next u p was inside place once here others t = record {
  each = λ w q at. elim (cases_eq w u) [
    | inl same ↦
        let both : Some p ≡ Some q = sym place ∙ ap (slice_get places) (sym same) ∙ at in
        let is_p : q ≡ p = cc in
        let value : user_of (set before u was) w ≡ was = ap (user_of (set before u was)) same ∙ user_set_same before u was inside in (
          λ m e. here.0 (ap next (sym is_p) ∙ m) (sym value ∙ e ∙ ap (user_of users) same),
          λ ne. ap next is_p ∙ here.1 (λ e. ne (value ∙ e ∙ ap (user_of users) (sym same))),
        )
    | inr other ↦
        let not_p : q ≢ p = λ e. other (once w u q at (place ∙ ap Some (sym e))) in
        let value = user_set_other before u w was other in
        let so = t.each w q at in (
          λ m e. so.0 (sym (others q not_p) ∙ m) (sym value ∙ e),
          λ ne. others q not_p ∙ so.1 (λ e. ne (value ∙ e)),
        )
  ];
  only = λ q m. elim (cases_eq q p) [
    | inl same ↦ (u, place ∙ ap Some (sym same))
    | inr other ↦ t.only q (sym (others q other) ∙ m)
  ];
}

-- no place is pending, and no user value differs from itself
pub lists_none : {X : Type 0} (places : List ℕ) (users : List (Option X)) (pending : ℕ → Bool) → ((k : ℕ) → pending k ≡ false)
    → ListsChanged places users users pending
lists_none places users pending none = record {
  each = λ u p e. (λ t. absurd (false≢true (sym (none p) ∙ t)), λ ne. absurd (ne refl));
  only = λ p t. absurd (false≢true (sym (none p) ∙ t));
}

-- two properties that hold of the same units hold of the same number of units
pub count_same : (size : ℕ) (P Q : ℕ → Type 0) (n : ℕ) → ((u : ℕ) → u < size → P u ↔ Q u) → IsCountOf size P n → IsCountOf size Q n
count_same size P Q n same c = record {
  units = c.units;
  length_is = c.length_is;
  once = c.once;
  each = λ u h q. c.each u h ((same u h).1 q);
  only = λ k u e. let r = c.only k u e in (r.0, (same u r.0).0 r.1);
}

-- a place at which two valuations differ is the number of a unit
pub changed_inside : {A : Type 0} (size : ℕ) (old new : List A) (u : ℕ) → length old ≡ size → length new ≡ size → slice_get old u ≢ slice_get new u → u < size
changed_inside size old new u a b ne = elim (cases_lt u size) [
  | inl within ↦ within
  | inr past ↦ absurd (ne (slice_get_past old u (omega (arith, a)) ∙ sym (slice_get_past new u (omega (arith, b)))))
]

module _ (size : ℕ) (dependencies : ℕ → List ℕ) (order places : List ℕ) (ordered : IsOrder size dependencies order) (placed : ArePlaces size order places) where
  place_of : (w k : ℕ) → slice_get places w ≡ Some k → slice_get order k ≡ Some w
  place_of w k e =
      let there = ordered.each w (omega (arith, slice_get_within places w k e, placed.one_each)) in
      let both : Some there.0 ≡ Some k = sym (placed.at there.0 w there.1) ∙ e in
      let same : there.0 ≡ k = cc in
      ap (slice_get order) (sym same) ∙ there.1

  -- the place of a unit in the order is below the number of units
  pub place_inside : (w k : ℕ) → slice_get places w ≡ Some k → k < size
  place_inside w k e = omega (arith, slice_get_within order k w (place_of w k e), short_order size dependencies order ordered)

  -- no two units have the same place in the order
  pub one_place : (u w p : ℕ) → slice_get places u ≡ Some p → slice_get places w ≡ Some p → u ≡ w
  one_place u w p a b = let both : Some u ≡ Some w = sym (place_of u p a) ∙ place_of w p b in let same : u ≡ w = cc in same

  module _ {X : Type 0} (before after : List (Option X)) (pending : ℕ → Bool) (lists : ListsChanged places after before pending) where
    -- each pending place is a place of the order
    pub within : (k : ℕ) → pending k ≡ true → k < length order
    within k t = let there = lists.only k t in slice_get_within order k there.0 (place_of there.0 k there.1)

    -- the units due for evaluation are just those that the change touches
    pub due_touched : {A : Type 0} (old new : List A) (u : ℕ) → u < size
        → IsDue dependencies order pending old new u ↔ IsTouched dependencies before after old new u
    due_touched old new u h = (
      (λ due. elim due [
        | inl first ↦ inl ((lists.each u first.0 (placed.at first.0 u first.1)).0 first.2)
        | inr dependency ↦ inr dependency
      ]),
      (λ touched. elim touched [
        | inl user ↦ let there = ordered.each u h in inl (there.0, there.1, (lists.each u there.0 (placed.at there.0 u there.1)).1 user)
        | inr dependency ↦ inr dependency
      ]),
    )

    -- a unit that isn't pending keeps its user value, so its value is still that of its rule
    pub still_holds : {A : Type 0} (rule : ℕ → Option X → List A → A) (decides : (a b : X) → (a ≡ b) ⊎ (a ≢ b)) (old : List A) → Solves size rule before old
        → (k u : ℕ) → slice_get order k ≡ Some u → pending k ≡ false
        → slice_get old u ≡ Some (rule u (user_of after u) old)
    still_holds rule decides old solves k u at unmarked =
        let user : user_of before u ≡ user_of after u = from_not_not decides (user_of before u) (user_of after u)
        (λ ne. false≢true (sym unmarked ∙ (lists.each u k (placed.at k u at)).1 ne)) in
        solves.holds u (ordered.units k u at) ∙ ap (λ x. Some (rule u x old)) user

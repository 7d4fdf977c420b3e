-- places of an order that are still to be visited
use Rattle.std.specs.Prelude.{◌≡◌, ◌≢◌, ◌⊎◌, ◌↔◌, ℕ, ◌<◌, Bool, true, false, List, Option, Some, length, slice_get, slice_index_or, Contains}
use Rattle.kc_solver.specs.checker.PlaceSets.{is_place}
use Rattle.kc_solver.specs.Solutions.{user_of}
use Rattle.kc_solver.specs.declared.place_sets.PlaceSet.{PlaceSet}

-- whether a place of the order is pending: in the set of places that are still to be visited
abbrev pub is_pending : PlaceSet → ℕ → Bool
is_pending set place = is_place set.first set.words.items place

-- the set of pending places is empty
abbrev pub IsDone : PlaceSet → Type 0
IsDone set = (k : ℕ) → is_pending set k ≡ false

-- each unit's place in the order is below the size of the set, so the set can have it
abbrev pub FitsPlaces : List ℕ → PlaceSet → Type 0
FitsPlaces places set = (u p : ℕ) → slice_get places u ≡ Some p → p < set.size

-- `places` has for each of `size` units its place in the order, counted from 0
pub record ArePlaces (size : ℕ) (order places : List ℕ) : Type 0 where
  pub one_each : length places ≡ size
  pub at : (k u : ℕ) → slice_get order k ≡ Some u → slice_get places u ≡ Some k

-- the new set has the places of the old set and those of some units, and no others
pub record MarksPlaces (old new : ℕ → Bool) (units places : List ℕ) : Type 0 where
  pub kept : (k : ℕ) → old k ≡ true → new k ≡ true
  pub added : (u : ℕ) → Contains units u → new (slice_index_or places u 0) ≡ true
  pub only : (k : ℕ) → new k ≡ true → (old k ≡ true) ⊎ ((u : ℕ) × Contains units u × (slice_index_or places u 0 ≡ k))

-- the place of unit u in the order is pending
abbrev pub IsPendingUnit : List ℕ → (ℕ → Bool) → ℕ → Type 0
IsPendingUnit order pending u = (k : ℕ) × (slice_get order k ≡ Some u) × (pending k ≡ true)

-- unit u is to be evaluated: its place was pending at the beginning, or the value of one of its dependencies differs
abbrev pub IsDue : {A : Type 0} → (ℕ → List ℕ) → (order : List ℕ) → (begun : ℕ → Bool) → (old new : List A) → ℕ → Type 0
IsDue dependencies order begun old new u = IsPendingUnit order begun u ⊎ ((d : ℕ) × Contains (dependencies u) d × (slice_get old d ≢ slice_get new d))

-- the pending places are just those of the units whose user values differ between the lists `before` and `after`
pub record ListsChanged {X : Type 0} (places : List ℕ) (after before : List (Option X)) (pending : ℕ → Bool) : Type 0 where
  pub each : (u p : ℕ) → slice_get places u ≡ Some p → (pending p ≡ true) ↔ (user_of before u ≢ user_of after u)
  pub only : (p : ℕ) → pending p ≡ true → (u : ℕ) × (slice_get places u ≡ Some p)

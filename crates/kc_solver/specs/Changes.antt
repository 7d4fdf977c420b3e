-- changes of an assignment, and the units that they touch and change
use Rattle.std.specs.Prelude.{◌≡◌, ◌≢◌, ◌⊎◌, ℕ, ◌<◌, List, [], ◌∷◌, Option, Some, length, slice_get, slice_set, Contains, IfSome, reverse}
use Rattle.std.specs.List.Sorted.{IsStrictlyIncreasing}
use Rattle.std.specs.Io.KnownBytes.{Appends}
use Rattle.kc_solver.specs.Solutions.{user_of}

-- the assignment of user values after some changes, each of one unit, in their order: a later change of a unit wins
abbrev pub changed_users : {X : Type 0} → List (ℕ × Option X) → List (Option X) → List (Option X)
changed_users [] users = users
changed_users (change ∷ changes) users = changed_users changes (slice_set users change.0 change.1)

-- each change is of one of `size` units, to a fitting user value or to none
abbrev pub FitsChanges : {X : Type 0} → ℕ → (ℕ → X → Type 0) → List (ℕ × Option X) → Type 0
FitsChanges {X} size fits changes = (k : ℕ) (u : ℕ) (x : Option X) → slice_get changes k ≡ Some (u, x) → (u < size) × IfSome x (fits u)

-- a unit is touched by a change: its user value differs before and after, or the value of one of its dependencies does
abbrev pub IsTouched : {A X : Type 0} → (ℕ → List ℕ) → (before after : List (Option X)) → (old new : List A) → ℕ → Type 0
IsTouched dependencies before after old new u = (user_of before u ≢ user_of after u) ⊎ ((d : ℕ) × Contains (dependencies u) d × (slice_get old d ≢ slice_get new d))

-- the value of unit u differs between two valuations
abbrev pub IsChanged : {A : Type 0} → List A → List A → ℕ → Type 0
IsChanged old new u = slice_get old u ≢ slice_get new u

-- of `size` units there are exactly n that P holds of: a list of length n has each of them once, and no others
pub record IsCountOf (size : ℕ) (P : ℕ → Type 0) (n : ℕ) : Type 0 where
  pub units : List ℕ
  pub length_is : length units ≡ n
  pub once : (j k u : ℕ) → slice_get units j ≡ Some u → slice_get units k ≡ Some u → j ≡ k
  pub each : (u : ℕ) → u < size → P u → (k : ℕ) × (slice_get units k ≡ Some u)
  pub only : (k u : ℕ) → slice_get units k ≡ Some u → (u < size) × P u

-- between two states of a meter, whose records (None if it keeps none) list the units evaluated, those of `size` units that P holds
-- of were evaluated, each once, and no others; `listed` has the newest first
pub record RecordsEach (size : ℕ) (P : ℕ → Type 0) (before after : Option (List ℕ)) : Type 0 where
  pub count : ℕ
  pub listed : IsCountOf size P count
  pub appended : Appends before after (reverse listed.units)

-- the list has just those of `size` units of which P holds, ascending
pub record IsListOf (size : ℕ) (P : ℕ → Type 0) (units : List ℕ) : Type 0 where
  pub ascending : IsStrictlyIncreasing units
  pub each : (u : ℕ) → u < size → P u → Contains units u
  pub only : (u : ℕ) → Contains units u → (u < size) × P u

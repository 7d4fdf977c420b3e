-- the state of an elimination, which lists units one after another, each after its dependencies
use Rattle.std.specs.Prelude.{◌≡◌, ◌↔◌, ◌⊎◌, ℕ, ◌<◌, ◌≤◌, Bool, true, false, List, length, Some, slice_get, slice_index_or as get_or, Contains}
use Rattle.kc_solver.specs.Dependencies.{IsLeft}

-- unit u is in the list of eliminated units
abbrev pub IsEliminated : List ℕ → ℕ → Type 0
IsEliminated eliminated u = (k : ℕ) × (slice_get eliminated k ≡ Some u)

-- the state of an elimination: each unit of the list is in it once, after its dependencies, and the flags of just these units are
-- set
pub record IsElimination (size : ℕ) (dependencies : ℕ → List ℕ) (eliminated : List ℕ) (flags : List Bool) : Type 0 where
  pub units : (k u : ℕ) → slice_get eliminated k ≡ Some u → u < size
  pub once : (j k u : ℕ) → slice_get eliminated j ≡ Some u → slice_get eliminated k ≡ Some u → j ≡ k
  pub after : (k u d : ℕ) → slice_get eliminated k ≡ Some u → Contains (dependencies u) d → (j : ℕ) × (j < k) × (slice_get eliminated j ≡ Some d)
  pub one_each : length flags ≡ size
  pub flagged : (u : ℕ) → u < size → (get_or flags u false ≡ true) ↔ IsEliminated eliminated u

-- in an elimination the first `next[u]` dependencies of each unit u have their flags set, that is, are eliminated
pub record ArePassed (size : ℕ) (dependencies : ℕ → List ℕ) (flags : List Bool) (next : List ℕ) : Type 0 where
  pub one_each : length next ≡ size
  pub within : (u : ℕ) → u < size → get_or next u 0 ≤ length (dependencies u)
  pub passed : (u k d : ℕ) → u < size → k < get_or next u 0 → slice_get (dependencies u) k ≡ Some d → get_or flags d false ≡ true

-- unit u is eliminated, or the flag of one of its dependencies is unset
abbrev pub IsEliminatedOrWaits : (dependencies : ℕ → List ℕ) (flags : List Bool) (eliminated : List ℕ) → ℕ → Type 0
IsEliminatedOrWaits dependencies flags eliminated u = IsEliminated eliminated u ⊎ ((d : ℕ) × Contains (dependencies u) d × (get_or flags d false ≡ false))

-- the new list of eliminated units begins with the old one
abbrev pub Grows : (old new : List ℕ) → Type 0
Grows old new = (k u : ℕ) → slice_get old k ≡ Some u → slice_get new k ≡ Some u

-- unit u is eliminated, or it has a dependency that isn't among the first i eliminated units
abbrev pub WaitsBeyond : (dependencies : ℕ → List ℕ) (eliminated : List ℕ) → ℕ → ℕ → Type 0
WaitsBeyond dependencies eliminated i u = IsEliminated eliminated u ⊎ ((d : ℕ) × Contains (dependencies u) d × ((k : ℕ) → k < i → slice_get eliminated k ≡ Some d → ⊥))

-- the flag of a unit is unset exactly if the unit is left: in a set of units of which each has a dependency in the set
abbrev pub FlagsLeft : (size : ℕ) (dependencies : ℕ → List ℕ) (flags : List Bool) → Type 0
FlagsLeft size dependencies flags = (u : ℕ) → u < size → (get_or flags u false ≡ false) ↔ IsLeft size dependencies u

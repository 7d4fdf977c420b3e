-- the user values that a valuation needs, and those that it can do without
use Rattle.std.specs.Prelude.{◌≡◌, ◌≢◌, ℕ, ◌<◌, Bool, true, false, List, Option, None, Some, length, slice_get, if◌then◌else◌, IsSome, ◌↔◌}
use Rattle.kc_solver.specs.Solutions.{user_of, Solves, UniquelySolves, FitsUsers}

-- a unit is kept: it has a value other than the one that its rule gives without a user value from the same values of all units
abbrev pub IsKept : {A X : Type 0} → (ℕ → Option X → List A → A) → List A → ℕ → Type 0
IsKept rule values u = slice_get values u ≢ Some (rule u None values)

-- `fewer` is the assignment `users` cut down to those of `size` units that `keeps` holds of: these have their user values, and
-- the others have none
pub record IsCutTo {X : Type 0} (size : ℕ) (keeps : ℕ → Bool) (users fewer : List (Option X)) : Type 0 where
  pub one_each : length fewer ≡ size
  pub cut : (u : ℕ) → u < size → user_of fewer u ≡ (if keeps u then user_of users u else None)

-- the least assignment of a valuation: each kept unit, whose value needs a user value, has its value as user value, and no other
-- unit has one
pub record IsLeastAssignment {A X : Type 0} (size : ℕ) (rule : ℕ → Option X → List A → A) (as_user : A → Option X) (values : List A) (least : List (Option X)) : Type 0 where
  pub one_each : length least ≡ size
  pub kept : (u : ℕ) (value : A) → u < size → slice_get values u ≡ Some value → IsKept rule values u → user_of least u ≡ as_user value
  pub others : (u : ℕ) → u < size → slice_get values u ≡ Some (rule u None values) → user_of least u ≡ None

-- law: the least assignment of a solution fits, has a user value for each kept unit, and gives the solution back; cut down so
-- that a kept unit is missing, it gives other values
abbrev pub LeastIsLeast : {A X : Type 0} (size : ℕ) (rule : ℕ → Option X → List A → A) (as_user : A → Option X) (fits : ℕ → X → Type 0) → Type 0
LeastIsLeast {A} {X} size rule as_user fits = (users least : List (Option X)) (values : List A) → FitsUsers size fits users → Solves size rule users values → IsLeastAssignment size rule as_user values least
    → FitsUsers size fits least × ((u : ℕ) → u < size → IsKept rule values u → IsSome (user_of least u)) × UniquelySolves size rule least values
    × ((keeps : ℕ → Bool) (fewer : List (Option X)) (u : ℕ) → IsCutTo size keeps least fewer → u < size → IsKept rule values u → keeps u ≡ false → (others : List A) × UniquelySolves size rule fewer others × (others ≢ values))

-- law: an assignment that is cut down to a set of units keeps its solution exactly if the set has each unit whose value in the
-- solution isn't the one that its rule gives without a user value
abbrev pub CutSolvesIfKept : {A X : Type 0} (size : ℕ) (rule : ℕ → Option X → List A → A) (fits : ℕ → X → Type 0) → Type 0
CutSolvesIfKept {A} {X} size rule fits = (users fewer : List (Option X)) (values : List A) (keeps : ℕ → Bool) → FitsUsers size fits users → Solves size rule users values → IsCutTo size keeps users fewer
    → (UniquelySolves size rule fewer values ↔ ((u : ℕ) → u < size → IsKept rule values u → keeps u ≡ true))

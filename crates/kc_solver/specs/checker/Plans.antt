-- the plan of a session
use Rattle.std.specs.Prelude.{ℕ, List}
use Rattle.kc_solver.specs.Dependencies.{IsOrder}
use Rattle.kc_solver.specs.checker.PendingPlaces.{ArePlaces}
use Rattle.kc_solver.specs.checker.Rows.{ListsDependents}

-- a plan of a session is right: its order is one of dependency, its rows have the units that depend on each unit, and its places
-- are those of the units in the order
pub record IsPlan (size : ℕ) (dependencies : ℕ → List ℕ) (order : List ℕ) (starts units places : List ℕ) : Type 0 where
  pub ordered : IsOrder size dependencies order
  pub dependents_are : ListsDependents size dependencies starts units
  pub places_are : ArePlaces size order places

-- the state of a revision, which evaluates pending units one after another, in the order
use Rattle.std.specs.Prelude.{◌≡◌, ◌≢◌, ◌⊎◌, ℕ, ◌<◌, ◌≤◌, Bool, true, List, Option, Some, length, slice_get, slice_set, Contains}
use Rattle.kc_solver.specs.checker.Logs.{LogsOneMore}
use Rattle.kc_solver.specs.checker.PendingPlaces.{IsPendingUnit, IsDue}
use Rattle.kc_solver.specs.Solutions.{user_of}
use Rattle.kc_solver.specs.checker.Elimination.{IsEliminated}

-- the new set has the places of the old set and those of the units that depend on u, and no others
pub record MarksDependents (size : ℕ) (dependencies : ℕ → List ℕ) (places : List ℕ) (old new : ℕ → Bool) (u : ℕ) : Type 0 where
  pub kept : (k : ℕ) → old k ≡ true → new k ≡ true
  pub added : (w k : ℕ) → w < size → Contains (dependencies w) u → slice_get places w ≡ Some k → new k ≡ true
  pub only : (k : ℕ) → new k ≡ true → (old k ≡ true) ⊎ ((w : ℕ) × (w < size) × Contains (dependencies w) u × (slice_get places w ≡ Some k))

-- unit u is revised: it had the value of its rule and nothing changed; or it hadn't, and now it has, its old value is logged, and
-- the places of the units that depend on it are pending
abbrev pub RevisesUnit : {A X : Type 0} → (size : ℕ) (dependencies : ℕ → List ℕ) (rule : ℕ → Option X → List A → A) (places : List ℕ) (users : List (Option X)) (u : ℕ) (values next : List A) (log longer : List (ℕ × A)) (pending more : ℕ → Bool) → Type 0
RevisesUnit size dependencies rule places users u values next log longer pending more =
    ((slice_get values u ≡ Some (rule u (user_of users u) values)) × (next ≡ values) × (longer ≡ log) × (more ≡ pending))
    ⊎ ((slice_get values u ≢ Some (rule u (user_of users u) values)) × (next ≡ slice_set values u (rule u (user_of users u) values)) × LogsOneMore log longer values u × MarksDependents size dependencies places pending more u)

-- the logged units are those whose values differ between two valuations, each once
pub record LogsChanged {A : Type 0} (old new : List A) (logged : List ℕ) : Type 0 where
  pub each : (u : ℕ) → slice_get old u ≢ slice_get new u → IsEliminated logged u
  pub only : (k u : ℕ) → slice_get logged k ≡ Some u → slice_get old u ≢ slice_get new u
  pub once : (j k u : ℕ) → slice_get logged j ≡ Some u → slice_get logged k ≡ Some u → j ≡ k

-- the state of a revision: the units evaluated are before a place of the order, and the pending ones from it on; a unit is due
-- (it was pending at the beginning, or a dependency's value differs) exactly if it is evaluated or pending
pub record Revising {A X : Type 0} (size : ℕ) (dependencies : ℕ → List ℕ) (rule : ℕ → Option X → List A → A) (order : List ℕ) (users : List (Option X)) (begun : ℕ → Bool) (old values : List A) (pending : ℕ → Bool) (logged : List ℕ) (evaluated : ℕ) : Type 0 where
  pub done : List ℕ
  pub start : ℕ
  pub count : length done ≡ evaluated
  pub one_each : length values ≡ size
  pub once : (j k u : ℕ) → slice_get done j ≡ Some u → slice_get done k ≡ Some u → j ≡ k
  pub passed : (j u : ℕ) → slice_get done j ≡ Some u → (k : ℕ) × (k < start) × (slice_get order k ≡ Some u)
  pub ahead : (k : ℕ) → pending k ≡ true → (start ≤ k) × (k < length order)
  pub rest : (u : ℕ) → (slice_get values u ≡ slice_get old u) ⊎ IsEliminated done u
  pub holds : (j u : ℕ) → slice_get done j ≡ Some u → slice_get values u ≡ Some (rule u (user_of users u) values)
  pub due : (u : ℕ) → u < size → IsDue dependencies order begun old values u → IsEliminated done u ⊎ IsPendingUnit order pending u
  pub done_due : (j u : ℕ) → slice_get done j ≡ Some u → IsDue dependencies order begun old values u
  pub pending_due : (k u : ℕ) → slice_get order k ≡ Some u → pending k ≡ true → IsDue dependencies order begun old values u
  pub logs : LogsChanged old values logged

-- A walk down a chain of expressions.
use Rattle.std.specs.Prelude.{◌≡◌, ℕ, ◌<◌, ◌≤◌, Bool, true, ◌||◌, ◌==◌, List, length, map}
use Rattle.kc_expr.specs.between.Arena.{Exprs, node_expr}
use Rattle.kc_expr.specs.between.Visits.{mentions, passes_some_name, is_visited}

-- the flags that a `VisitedSet` has for the nodes, by its `turn` and its stamps: a node is visited if its stamp is `turn`
abbrev pub stamped : ℕ → List ℕ → List Bool
stamped turn stamps = map (λ s. s == turn) stamps

-- each name in the expressions of the visited nodes up to a given one is among the names with given numbers
abbrev pub HasFoundTo : Exprs → ℕ → List Bool → List ℕ → Type 0
HasFoundTo exprs last walked ids = (node : ℕ) (p : List ℕ → Bool) → node ≤ last → is_visited walked node ≡ true → mentions p (node_expr exprs node) ≡ true → passes_some_name exprs p ids ≡ true

-- a walk over nodes has visited the node `last`, none with a greater number, and found just the names in the expression of `last`
-- besides those that were found before
pub record HasVisited (exprs : Exprs) (last : ℕ) (before after : List Bool) (old new : List ℕ) : Type 0 where
  pub room : length after ≡ length before
  pub walked : is_visited after last ≡ true
  pub kept : (node : ℕ) → is_visited before node ≡ true → is_visited after node ≡ true
  pub above : (node : ℕ) → last < node → is_visited after node ≡ is_visited before node
  pub exact : (p : List ℕ → Bool) → passes_some_name exprs p new ≡ (passes_some_name exprs p old || mentions p (node_expr exprs last))
  pub found : HasFoundTo exprs last after new

-- a walk on its way down from the node `last` is at the node `at`: only the names in the expression of `at` are still to be found
pub record IsWalking (exprs : Exprs) (last : ℕ) (before : List Bool) (old : List ℕ) (at : ℕ) (walked : List Bool) (ids : List ℕ) : Type 0 where
  pub below : at ≤ last
  pub room : length walked ≡ length before
  pub begun : at < last → is_visited walked last ≡ true
  pub kept : (node : ℕ) → is_visited before node ≡ true → is_visited walked node ≡ true
  pub above : (node : ℕ) → last < node → is_visited walked node ≡ is_visited before node
  pub exact : (p : List ℕ → Bool) → (passes_some_name exprs p ids || mentions p (node_expr exprs at)) ≡ (passes_some_name exprs p old || mentions p (node_expr exprs last))
  pub found : HasFoundTo exprs at walked ids
  pub whole : (node : ℕ) (p : List ℕ → Bool) → node ≤ last → is_visited walked node ≡ true → mentions p (node_expr exprs node) ≡ true → (passes_some_name exprs p old || mentions p (node_expr exprs last)) ≡ true

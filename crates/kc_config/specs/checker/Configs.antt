-- The invariant of a configuration.
use Rattle.std.specs.Prelude.{◌≡◌, ℕ, ◌<◌, List, Option, Some, None, length, map, Contains}
use Rattle.kc_solver.specs.Solutions.{user_of}
use Rattle.kc_rules_model.specs.declared.values.UserValue.{UserValue}
use Rattle.kc_dotconfig_model.specs.ConfigFiles.{merged_user}
use Rattle.kc_rules.specs.declared.rules.Settled.{Settled}
use Rattle.kc_config.specs.ConfigStates.{Configured, tree_in, IsSolved}

-- the changes that remove the user value of each unit of a list
abbrev pub clears_of : List ℕ → List (ℕ × Option UserValue)
clears_of units = map (λ (u : ℕ). (u, None)) units

-- the user values of a list, each over the one that its unit has in an assignment
abbrev pub merged_assigns : List (Option UserValue) → List (ℕ × UserValue) → List (ℕ × UserValue)
merged_assigns users assigns = map (λ (a : ℕ × UserValue). (a.0, merged_user a.1 (user_of users a.0))) assigns

-- a configuration's tree is `settled`, the configuration is solved, and `valued` has units of the tree, among them each unit with
-- a user value
pub record IsSoundConfig (settled : Settled) (c : Configured) (valued : List ℕ) : Type 0 where
  pub same : c.system ≡ settled
  pub solved : IsSolved c
  pub covers : (u : ℕ) (x : UserValue) → user_of c.users u ≡ Some x → Contains valued u
  pub within : (u : ℕ) → Contains valued u → u < length (tree_in c).units

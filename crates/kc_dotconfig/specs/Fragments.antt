-- The assignment of a fragment, and the fragments that fit a tree.
use Rattle.std.specs.Prelude.{◌≡◌, ℕ, ◌<◌, List, Option, Some, length, map, slice_get, IsTrue}
use Rattle.std.specs.List.Sorted.{IsStrictlyIncreasing}
use Rattle.kc_tree_model.specs.Trees.{Tree}
use Rattle.kc_solver.specs.Changes.{changed_users}
use Rattle.kc_rules_model.specs.declared.values.UserValue.{UserValue}
use Rattle.kc_rules_model.specs.Shapes.{user_fits}
use Rattle.kc_dotconfig_model.specs.ConfigFiles.{empty_assignment}

-- the changes that set each unit of a list to its user value
abbrev pub changes_of : List (ℕ × UserValue) → List (ℕ × Option UserValue)
changes_of assigns = map (λ (a : ℕ × UserValue). (a.0, Some a.1)) assigns

-- the assignment to a tree's units that has the user values of a list and no others
abbrev pub users_of : Tree → List (ℕ × UserValue) → List (Option UserValue)
users_of tree assigns = changed_users (changes_of assigns) (empty_assignment tree)

-- the units of `assigns` ascend strictly and are units of `tree`, and each user value has the shape of its unit
pub record FitsTree (tree : Tree) (assigns : List (ℕ × UserValue)) : Type 0 where
  pub ascending : IsStrictlyIncreasing (map (λ (a : ℕ × UserValue). a.0) assigns)
  pub each : (k u : ℕ) (x : UserValue) → slice_get assigns k ≡ Some (u, x)
      → (u < length tree.units) × IsTrue (user_fits tree u x)

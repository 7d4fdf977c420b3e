-- The state of a configuration.
use Rattle.std.specs.Prelude.{length, IsTrue}
use Rattle.kc_solver.specs.SessionState.{SessionState}
use Rattle.kc_solver.specs.Solutions.{UniquelySolves, FitsUsers, FitsValues}
use Rattle.kc_tree_model.specs.Trees.{Tree}
use Rattle.kc_rules_model.specs.declared.values.UnitValue.{UnitValue}
use Rattle.kc_rules_model.specs.declared.values.UserValue.{UserValue}
use Rattle.kc_rules_model.specs.Rule.{rule}
use Rattle.kc_rules_model.specs.Shapes.{user_fits, value_fits}
use Rattle.kc_rules_model.specs.SettledTrees.{IsSettledTree}
use Rattle.kc_rules.specs.declared.rules.Settled.{Settled}
use Rattle.kc_rules.specs.between.SettledViews.{tree_of_settled, profile_of}

-- the value of a configuration: a settled tree, an assignment of user values to units, and the values of the units
abbrev pub Configured : Type 0
Configured = SessionState Settled UnitValue UserValue

-- the tree of a configuration's settled tree
abbrev pub tree_in : Configured → Tree
tree_in c = tree_of_settled c.system

-- a configuration's assignment fits its tree, and its values are the only ones that solve the tree's rules for it
pub record IsSolved (c : Configured) : Type 0 where
  pub settled : IsSettledTree (tree_in c)
  pub fits : FitsUsers (length (tree_in c).units) (λ u x. IsTrue (user_fits (tree_in c) u x)) c.users
  pub fits_values : FitsValues (length (tree_in c).units) (λ u v. IsTrue (value_fits (tree_in c) u v)) c.values
  pub gives : UniquelySolves (length (tree_in c).units) (rule (profile_of c.system) (tree_in c)) c.users c.values

-- The values of a tree's units, and the user values that give them.
use Rattle.std.specs.Prelude.{List, Option, length, IsTrue}
use Rattle.kc_tree_model.specs.Trees.{Tree}
use Rattle.kc_solver.specs.Solutions.{Solves, FitsUsers, FitsValues}
use Rattle.kc_rules_model.specs.declared.profile.Profile.{Profile}
use Rattle.kc_rules_model.specs.declared.values.UnitValue.{UnitValue}
use Rattle.kc_rules_model.specs.declared.values.UserValue.{UserValue}
use Rattle.kc_rules_model.specs.Rule.{rule}
use Rattle.kc_rules_model.specs.Shapes.{user_fits, value_fits}

-- each unit of a tree has a value of the unit's shape: a tristate or text of a symbol's type, or a member of a choice
abbrev pub FitValues : Tree → List UnitValue → Type 0
FitValues tree values = FitsValues (length tree.units) (λ u x. IsTrue (value_fits tree u x)) values

-- the user values, one or none for each unit and of its shape, give these values by the rules of the tree
pub record AreGivenBy (profile : Profile) (tree : Tree) (users : List (Option UserValue)) (values : List UnitValue) : Type 0 where
  pub fits : FitsUsers (length tree.units) (λ u x. IsTrue (user_fits tree u x)) users
  pub solves : Solves (length tree.units) (rule profile tree) users values

-- A valuation as contracts see it: its tree, its expressions and the values of the units.
use Rattle.std.specs.Prelude.{List}
use Rattle.kc_expr.specs.between.Arena.{Exprs}
use Rattle.kc_tree_model.specs.Trees.{Tree}
use Rattle.kc_evaluation.specs.declared.valuation.Valuation.{Valuation}
use Rattle.kc_rules_model.specs.declared.values.UnitValue.{UnitValue}

-- the tree whose units a valuation gives values
abbrev pub valuation_tree : Valuation → Tree
valuation_tree u = u.rules.now.tree.tree

-- the names and expressions of the arena that belongs to a valuation's tree
abbrev pub valuation_exprs : Valuation → Exprs
valuation_exprs u = u.rules.now.tree.exprs

-- the values that a valuation gives to the units of its tree, in the order of the units' numbers
abbrev pub valuation_values : Valuation → List UnitValue
valuation_values u = u.values.now

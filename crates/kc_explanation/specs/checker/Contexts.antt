-- What texts are written by, as contracts see it.
use Rattle.std.specs.Prelude.{List}
use Rattle.kc_expr.specs.Expr.{Environment}
use Rattle.kc_expr.specs.between.Arena.{Exprs}
use Rattle.kc_tree_model.specs.Trees.{Tree}
use Rattle.kc_rules_model.specs.declared.values.UnitValue.{UnitValue}
use Rattle.kc_rules_model.specs.SymbolValues.{environment}
use Rattle.kc_evaluation.specs.checker.ValuationView.{valuation_tree, valuation_exprs, valuation_values}
use Rattle.kc_explanation.specs.declared.context.Context.{Context}

abbrev pub exprs_of : Context → Exprs
exprs_of by = valuation_exprs by.under.now

abbrev pub tree_of : Context → Tree
tree_of by = valuation_tree by.under.now

abbrev pub values_of : Context → List UnitValue
values_of by = valuation_values by.under.now

-- the values of names
abbrev pub names_of : Context → Environment
names_of by = environment (valuation_tree by.under.now) (valuation_values by.under.now)

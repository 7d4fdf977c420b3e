-- The lines of differences, from the values of each symbol.
use Rattle.std.specs.Prelude.{ℕ, List, [], Option, Some}
use Rattle.kc_expr.specs.Expr.{SymbolValue}
use Rattle.kc_tree_model.specs.Trees.{Tree}
use Rattle.kc_rules_model.specs.declared.values.UnitValue.{UnitValue}
use Rattle.kc_rules_model.specs.SymbolValues.{value_of_symbol}
use Rattle.kc_dotconfig_model.specs.declared.format.Strings.{Strings}
use Rattle.kc_minimal_model.specs.SymbolLine.{spelled}
use Rattle.kmin_records.specs.declared.output_form.OutputForm.{OutputForm}
use Rattle.kmin_report.specs.Reports.{name_at}
use Rattle.kmin_outputs.specs.Outputs.{compared_line}

-- the line of `compare` in a form for two values of the symbol of this name; empty if one of them is missing
abbrev pub line_of_values : OutputForm → Strings → List ℕ → Option SymbolValue → Option SymbolValue → List ℕ
line_of_values form strings name (Some a) (Some b) = compared_line form name (spelled strings a.kind a.text) (spelled strings b.kind b.text)
line_of_values form strings name _ _ = []

-- the line of `compare` in a form for a symbol, with its values in two valuations of a tree
abbrev pub line_between : OutputForm → Strings → Tree → List UnitValue → List UnitValue → ℕ → List ℕ
line_between form strings tree v w s = line_of_values form strings (name_at tree s) (value_of_symbol tree v s) (value_of_symbol tree w s)

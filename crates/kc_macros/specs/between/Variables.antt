-- Variables and bindings of the code, as `kc_macros_model` defines them.
use Rattle.std.specs.Prelude.{ℕ, List, Vec}
use Rattle.std.specs.declared.alloc.Global.{Global}
use Rattle.kc_tree_model.specs.Keywords.{keyword_in_table}
use Rattle.kc_macros_model.specs.Variables.{Variable, simple, recursive, Bindings}
use Rattle.kc_macros.specs.declared.variable.Variable.{Variable as CodeVariable}
use Rattle.kc_macros.specs.declared.variable.Variable.TheVariants as kinds

-- a variable of the code as one of `kc_macros_model`
abbrev pub variable_of : CodeVariable → Variable
variable_of (kinds.Simple value) = simple value
variable_of (kinds.Recursive text) = recursive text

-- an entry of the code's table of variables, a name with its variable, as a pair of `kc_macros_model`
abbrev pub entry_of : Vec ℕ Global × CodeVariable → List ℕ × Variable
entry_of e = (e.0.items, variable_of e.1)

-- the bindings (the variable of each name that has one) that a list of names with their variables represents
abbrev pub bindings_of : List (List ℕ × Variable) → Bindings
bindings_of es name = keyword_in_table es name

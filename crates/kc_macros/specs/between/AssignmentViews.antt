-- Assignments to variables, by the bindings that they give.
use Rattle.std.specs.Prelude.{ℕ, List}
use Rattle.kc_macros_model.specs.Programs.{Place, Program, returns, ◌>>=◌}
use Rattle.kc_macros_model.specs.Variables.{Bindings, with_variable}
use Rattle.kc_macros_model.specs.declared.operator.Operator.{Operator}
use Rattle.kc_macros_model.specs.Assignments.{variable_assigned}

-- the program that gives the bindings after an assignment of a text to a name, given those before
abbrev pub bindings_assigned : Place → Bindings → (name : List ℕ) → Operator → List ℕ → Program Bindings
bindings_assigned at b name operator text = variable_assigned at b operator text (b name) >>= λ v. returns (with_variable name v b)

-- Variables, built-in functions, and the names that questions may have.
use Rattle.std.specs.Prelude.{ℕ, ◌-◌, Bool, false, not, ◌&&◌, nat_lt, List, [], ◌∷◌, ◌++◌, length, slice_get, Option, Some, None, bytes_eq, codes, if◌then◌else◌}
use Rattle.std.specs.List.{list_all}
use Rattle.std.specs.Char.{is_digit}
use Rattle.std.specs.Str.Parse.{digits_value}
use Rattle.kc_tokens.specs.Token.{is_name_byte}
use Rattle.kc_macros_model.specs.declared.built_in.BuiltIn.{BuiltIn}
use Rattle.kc_macros_model.specs.declared.built_in.BuiltIn.TheVariants.{Filename, Lineno, Shell, Info, WarningIf, ErrorIf}
use Rattle.kc_macros_model.specs.Programs.{Answer}
use Rattle.kc_tree_model.specs.LogicalLines.{without_white_end}

-- the value of an expanded text: its bytes, or `None` where it depends on a question without an answer
abbrev pub Value : Type 0
Value = Option (List ℕ)

-- the length of a value in bytes; 0 where the value is unknown
abbrev pub value_length : Value → ℕ
value_length None = 0
value_length (Some text) = length text

-- one value followed by another; unknown where one of them is
abbrev pub joined_values : Value → Value → Value
joined_values (Some s) (Some t) = Some (s ++ t)
joined_values (Some s) None = None
joined_values None t = None

-- a macro variable: a simple one has a value, a recursive one a text that is expanded at each use
pub data Variable : Type 0 where
  simple : Value → Variable
  recursive : List ℕ → Variable

-- the macro variables by their names; `None` for a name without a variable
abbrev pub Bindings : Type 0
Bindings = List ℕ → Option Variable

-- the bindings in which no name has a variable
abbrev pub no_bindings : Bindings
no_bindings name = None

-- bindings with a variable for a name, in place of its earlier variable
abbrev pub with_variable : List ℕ → Variable → Bindings → Bindings
with_variable name v b other = if bytes_eq other name then Some v else b other

-- whether a text is a number: decimal digits, at least one
abbrev pub is_number : List ℕ → Bool
is_number s = nat_lt 0 (length s) && list_all (λ c. is_digit c 10) s

-- whether a name may be that of an environment variable: a letter or `_`, then letters, digits and `_`
abbrev pub is_environment_name : List ℕ → Bool
is_environment_name [] = false
is_environment_name (c ∷ s) = not (is_digit c 10) && list_all is_name_byte (c ∷ s)

-- the question that a shell command asks: `$ ` and the command without white at its end
abbrev pub command_question : List ℕ → List ℕ
command_question command = 36 ∷ 32 ∷ without_white_end command

-- the argument of a call whose number, counted from 1, is the inside of a reference; `None` if it is no number or too large
abbrev pub argument_of : List Value → List ℕ → Option Value
argument_of args inside = if is_number inside && nat_lt 0 (digits_value 10 inside) then slice_get args (digits_value 10 inside - 1) else None

-- the built-in macro functions with their names
abbrev pub built_ins : List (List ℕ × BuiltIn)
built_ins = (codes "filename", Filename) ∷ (codes "lineno", Lineno) ∷ (codes "shell", Shell) ∷ (codes "info", Info) ∷ (codes "warning-if", WarningIf) ∷ (codes "error-if", ErrorIf) ∷ []

-- the value of an answer to a question: empty for an environment variable that isn't set, unknown without an answer
abbrev pub value_of_answer : Option Answer → Value
value_of_answer None = None
value_of_answer (Some None) = Some []
value_of_answer (Some (Some text)) = Some text

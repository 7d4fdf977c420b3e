-- How many arguments built-in functions take, and their messages.
use Rattle.std.specs.Prelude.{ℕ, List, [], Option, Some, None, bytes_eq, codes, if◌then◌else◌}
use Rattle.kc_macros_model.specs.Programs.{Program, returns}
use Rattle.kc_macros_model.specs.declared.built_in.BuiltIn.{BuiltIn}
use Rattle.kc_macros_model.specs.declared.built_in.BuiltIn.TheVariants.{Filename, Lineno, Shell, Info, WarningIf, ErrorIf}
use Rattle.kc_macros_model.specs.Variables.{Value}

-- the number of arguments that a built-in function takes
abbrev pub arity_of : BuiltIn → ℕ
arity_of Filename = 0
arity_of Lineno = 0
arity_of Shell = 1
arity_of Info = 1
arity_of WarningIf = 2
arity_of ErrorIf = 2

-- the text of the message of `warning-if` or `error-if`, if its condition and its text are known and the condition is `y`
abbrev pub message_text : Value → Value → Option (List ℕ)
message_text (Some condition) (Some text) = if bytes_eq condition (codes "y") then Some text else None
message_text (Some condition) None = None
message_text None text = None

-- the program that reports a message, if there is one; without one it only gives an empty value
abbrev pub message_value : (List ℕ → Program Value) → Option (List ℕ) → Program Value
message_value message (Some text) = message text
message_value message None = returns (Some [])

-- The value of a text: each reference in it replaced by its value, from left to right.
use Rattle.std.specs.Prelude.{ℕ, zero, suc, ◌+◌, Bool, true, false, nat_le, List, [], ◌∷◌, length, Option, Some, None, bytes_eq, codes, decimal, if◌then◌else◌}
use Rattle.std.specs.List.{list_any}
use Rattle.kc_tree_model.specs.Keywords.{keyword_in_table}
use Rattle.kc_macros_model.specs.declared.fault.MacroKind.{MacroKind}
use Rattle.kc_macros_model.specs.declared.fault.MacroKind.TheVariants.{Unterminated, Undefined, Recursion, Arguments, Error, TooDeep, LineTooLong}
use Rattle.kc_macros_model.specs.declared.fault.MacroNoticeKind.{MacroNoticeKind}
use Rattle.kc_macros_model.specs.declared.fault.MacroNoticeKind.TheVariants.{Info, Warning}
use Rattle.kc_value.specs.declared.limits.TheConstants.{MAX_TEXT_BYTES, MAX_OPEN_EXPANSIONS, MAX_PIECES}
use Rattle.kc_macros_model.specs.Programs.{Place, spend, report, ask, Program, returns, fails, does, ◌>>=◌}
use Rattle.kc_macros_model.specs.References.{Item, byte, escaped, reference, unterminated, items, pieces}
use Rattle.kc_macros_model.specs.declared.built_in.BuiltIn.{BuiltIn}
use Rattle.kc_macros_model.specs.declared.built_in.BuiltIn.TheVariants as functions
use Rattle.kc_macros_model.specs.Variables.{Value, value_length, joined_values, Variable, simple, recursive, Bindings, is_number, is_environment_name, command_question, argument_of, built_ins, value_of_answer}

-- a program that fails at a place, with a kind of fault and the text that it is about
abbrev pub fault : {A : Type 0} → Place → MacroKind → List ℕ → Program A
fault at kind text = fails (record { at = at; kind = kind; text = text })

-- a program that first does this much work and then goes on as the given program
abbrev pub spends : {A : Type 0} → Place → ℕ → Program A → Program A
spends at work p = does (spend at work) (λ u. p)

-- asks a question and returns the value of its answer, which is unknown if there is no answer
abbrev pub asked_value : Place → List ℕ → Program Value
asked_value at question = does (ask at question) (λ answer. returns (value_of_answer answer))

-- reports a notice and returns an empty value, which is that of the `info` or `warning-if` call
abbrev pub reported : Place → MacroNoticeKind → List ℕ → Program Value
reported at kind text = does (report (record { at = at; kind = kind; text = text })) (λ u. returns (Some []))

-- a call of `info`, `warning-if` or `error-if`: the text goes to the given function if the condition is `y` and the text is
-- known; else the value is empty
abbrev pub message_if : (List ℕ → Program Value) → Value → Value → Program Value
message_if message (Some condition) (Some text) = if bytes_eq condition (codes "y") then message text else returns (Some [])
message_if message (Some condition) None = returns (Some [])
message_if message None text = returns (Some [])

-- the value of a `shell` call: the answer to its command, or unknown if the command is
abbrev pub shell_value : Place → Value → Program Value
shell_value at None = returns None
shell_value at (Some command) = asked_value at (command_question command)

-- the value of a built-in function, called with these arguments; a wrong number of arguments is a fault
abbrev pub built_in_value : Place → List ℕ → BuiltIn → List Value → Program Value
built_in_value at name functions.Filename [] = returns (Some at.file)
built_in_value at name functions.Lineno [] = returns (Some (decimal at.line))
built_in_value at name functions.Shell (command ∷ []) = shell_value at command
built_in_value at name functions.Info (text ∷ []) = message_if (reported at Info) (Some (codes "y")) text
built_in_value at name functions.WarningIf (condition ∷ text ∷ []) = message_if (reported at Warning) condition text
built_in_value at name functions.ErrorIf (condition ∷ text ∷ []) = message_if (fault at Error) condition text
built_in_value at name f args = fault at Arguments name

-- the value of an undefined name: empty for a parameter that wasn't given, the answer for an environment variable, or a fault
abbrev pub other_value : Place → List ℕ → List Value → Program Value
other_value at name (arg ∷ args) = fault at Undefined name
other_value at name [] = if is_number name then returns (Some []) else if is_environment_name name then asked_value at name else fault at Undefined name

-- the value of a name without a variable, called with these arguments: of its built-in function, a parameter or the environment
abbrev pub unbound_value : Place → List ℕ → List Value → Option BuiltIn → Program Value
unbound_value at name args (Some f) = built_in_value at name f args
unbound_value at name args None = other_value at name args

-- whether a variable that is called without arguments is being expanded already, so that it needs its own value
abbrev pub is_recursion : List (List ℕ) → List ℕ → List Value → Bool
is_recursion open_names name [] = list_any (bytes_eq name) open_names
is_recursion open_names name (arg ∷ args) = false

-- a function that expands a text, given the names whose values are being expanded and the arguments of the call
abbrev pub Expander : Type 0
Expander = List (List ℕ) → List Value → List ℕ → Program Value

-- the value of a name, called with these arguments: of its variable, else of its built-in function, else of the environment
abbrev pub named_value : Expander → Place → List (List ℕ) → List ℕ → List Value → Option Variable → Program Value
named_value sub at open_names name args None = unbound_value at name args (keyword_in_table built_ins name)
named_value sub at open_names name args (Some (simple value)) = returns value
named_value sub at open_names name args (Some (recursive text)) = elim (is_recursion open_names name args) [ true ↦ fault at Recursion name | false ↦ sub (name ∷ open_names) args text ]

-- the values of the pieces of a macro reference, in order
abbrev pub piece_values : (List ℕ → Program Value) → List (List ℕ) → Program (List Value)
piece_values expand [] = returns []
piece_values expand (p ∷ ps) = expand p >>= λ v. piece_values expand ps >>= λ vs. returns (v ∷ vs)

-- the value of a macro reference, given the values of its pieces: a name and its arguments
abbrev pub call_value : Expander → Place → Bindings → List (List ℕ) → List Value → Program Value
call_value sub at b open_names [] = fault at Undefined []
call_value sub at b open_names (None ∷ args) = returns None
call_value sub at b open_names (Some name ∷ args) = named_value sub at open_names name args (b name)

-- the value of a macro reference: the argument whose number is its inside, if any, else the value of the call that its pieces
-- make; more than 16 pieces are a fault
abbrev pub reference_value : Expander → Place → Bindings → List (List ℕ) → List Value → List ℕ → Option Value → Program Value
reference_value sub at b open_names args inside (Some value) = returns value
reference_value sub at b open_names args inside None =
    elim (nat_le (length (pieces 0 inside)) MAX_PIECES) [ true ↦ piece_values (sub open_names args) (pieces 0 inside) >>= call_value sub at b open_names | false ↦ fault at Arguments [] ]

-- the value of an item of a text: a byte is its own value, a macro reference has its value, an unterminated `$(` is a fault
abbrev pub item_value : Expander → Place → Bindings → List (List ℕ) → List Value → Item → Program Value
item_value sub at b open_names args (byte c) = returns (Some (c ∷ []))
item_value sub at b open_names args (escaped c) = returns (Some (92 ∷ c ∷ []))
item_value sub at b open_names args (reference inside) = reference_value sub at b open_names args inside (argument_of args inside)
item_value sub at b open_names args (unterminated rest) = fault at Unterminated []

-- a program that goes on unless a text has more than `MAX_TEXT_BYTES` bytes, which is a fault
abbrev pub unless_too_long : {A : Type 0} → Place → ℕ → Program A → Program A
unless_too_long at n p = elim (nat_le n MAX_TEXT_BYTES) [ true ↦ p | false ↦ fault at LineTooLong [] ]

-- the joined values of the items of a text, given how many bytes of the text's value come before them
abbrev pub item_values : Place → (Item → Program Value) → ℕ → List Item → Program Value
item_values at value n [] = returns (Some [])
item_values at value n (i ∷ is) = value i >>= λ v. unless_too_long at (n + value_length v) (item_values at value (n + value_length v) is >>= λ rest. returns (joined_values v rest))

-- the value of a text, given how many expansions may still be open within each other; if no more may be, the fault `TooDeep`
abbrev pub expanded : ℕ → Place → Bindings → Expander
expanded zero at b open_names args text = fault at TooDeep []
expanded (suc more) at b open_names args text =
    spends at (length text + 1) (item_values at (item_value (expanded more at b) at b open_names args) 0 (items false 0 text) >>= λ v. spends at (value_length v) (returns v))

-- the value of a text of a logical line, with each macro reference replaced by its value
unfoldable pub text_value : Place → Bindings → List ℕ → Program Value
text_value at b text = expanded MAX_OPEN_EXPANSIONS at b [] [] text

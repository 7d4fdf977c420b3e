-- Laws of the expansion of a text: it agrees with the rules, a text without references is its own value, and values are bounded.
use Rattle.std.specs.Prelude.{◌≡◌, ℕ, suc, ◌+◌, ◌≤◌, Bool, true, false, ◌||◌, List, [], ◌∷◌, length, Option, Some}
use Rattle.kc_macros_model.specs.declared.fault.MacroKind.{MacroKind}
use Rattle.kc_macros_model.specs.declared.fault.MacroKind.TheVariants.{Recursion, TooDeep, LineTooLong}
use Rattle.kc_value.specs.declared.limits.TheConstants.{MAX_TEXT_BYTES}
use Rattle.kc_macros_model.specs.Programs.{Place, Fault, returns}
use Rattle.kc_macros_model.specs.Variables.{Value, value_length, Variable, simple, recursive, Bindings}
use Rattle.kc_macros_model.specs.Expansion.{spends, expanded}
use Rattle.kc_macros_model.specs.declared.operator.Operator.{Operator}
use Rattle.kc_macros_model.specs.Assignments.{variable_assigned}
use Rattle.kc_macros_model.specs.Worlds.{World, Ending, returned, failed}
use Rattle.kc_macros_model.specs.ExpansionRules.{ending_in, begins_reference, Expands}

-- the expansion of a text returns only values that the rules of expansion give
abbrev pub ExpansionKeepsTheRules : Type 0
ExpansionKeepsTheRules = (w : World) (at : Place) (b : Bindings) (more : ℕ) (open_names : List (List ℕ)) (args : List Value) (text : List ℕ) (v : Value)
    → ending_in w (expanded more at b open_names args text) ≡ returned v → Expands w at b args text v

-- whether a fault is one that the rules of expansion don't have: a limit is exceeded, or a variable needs its own value
abbrev pub is_bound : MacroKind → Bool
is_bound k = elim k [ TooDeep ↦ true | LineTooLong ↦ true | Recursion ↦ true | _ ↦ false ]

-- a program returned this value, or failed since a limit was exceeded or a variable needs its own value
pub data IsValueOrBound {A : Type 0} (v : A) : Ending A → Type 0 where
  value : IsValueOrBound v (returned v)
  bound : {f : Fault} → is_bound f.kind ≡ true → IsValueOrBound v (failed f)

-- the expansion of a text returns each value that the rules of expansion give, or fails by a limit or `Recursion`
abbrev pub RulesAreExpanded : Type 0
RulesAreExpanded = (w : World) (at : Place) (b : Bindings) (args : List Value) (text : List ℕ) (v : Value) → Expands w at b args text v
    → (more : ℕ) (open_names : List (List ℕ)) → IsValueOrBound v (ending_in w (expanded more at b open_names args text))

-- whether a text has a `$(`
abbrev pub has_reference : List ℕ → Bool
has_reference [] = false
has_reference (c ∷ s) = begins_reference (c ∷ s) || has_reference s

-- a text of at most `MAX_TEXT_BYTES` bytes without `$(` expands to itself; the work is one more than twice its length
abbrev pub PlainTextsStay : Type 0
PlainTextsStay = (at : Place) (b : Bindings) (more : ℕ) (open_names : List (List ℕ)) (args : List Value) (text : List ℕ)
    → has_reference text ≡ false → length text ≤ MAX_TEXT_BYTES
    → expanded (suc more) at b open_names args text ≡ spends at (length text + 1) (spends at (length text) (returns (Some text)))

-- no value to which a text expands has more than `MAX_TEXT_BYTES` bytes
abbrev pub ValuesAreBounded : Type 0
ValuesAreBounded = (w : World) (at : Place) (b : Bindings) (more : ℕ) (open_names : List (List ℕ)) (args : List Value) (text : List ℕ) (v : Value)
    → ending_in w (expanded more at b open_names args text) ≡ returned v → value_length v ≤ MAX_TEXT_BYTES

-- how many bytes are stored for a variable
abbrev pub stored_length : Variable → ℕ
stored_length (simple v) = value_length v
stored_length (recursive text) = length text

-- no variable stores more than `MAX_TEXT_BYTES` bytes after an assignment, `+=` included
abbrev pub VariablesAreBounded : Type 0
VariablesAreBounded = (w : World) (at : Place) (b : Bindings) (operator : Operator) (text : List ℕ) (before : Option Variable) (x : Variable)
    → ending_in w (variable_assigned at b operator text before) ≡ returned x → stored_length x ≤ MAX_TEXT_BYTES

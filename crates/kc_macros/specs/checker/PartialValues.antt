-- The value of a text so far, item by item.
use Rattle.std.specs.Prelude.{ℕ, Bool, true, false, List, [], ◌∷◌, length, Option, Some, None}
use Rattle.std.specs.Borrow.{Bor}
use Rattle.kc_macros_model.specs.declared.fault.MacroKind.TheVariants.{LineTooLong}
use Rattle.kc_macros_model.specs.Programs.{Place, Fault, Program, returns, ◌>>=◌}
use Rattle.kc_macros_model.specs.References.{Item, reference, items}
use Rattle.kc_macros_model.specs.Variables.{Value, joined_values}
use Rattle.kc_macros_model.specs.Expansion.{item_values}

-- the bytes of a value; none if the value is unknown
abbrev pub known_bytes : Value → List ℕ
known_bytes (Some text) = text
known_bytes None = []

-- these bytes as a value if it is known, and the unknown value otherwise
abbrev pub value_if_known : (known : Bool) → List ℕ → Value
value_if_known true bytes = Some bytes
value_if_known false bytes = None

-- the fault of a text with too many bytes, at this place
abbrev pub too_long : Place → Fault
too_long at = record { at = at; kind = LineTooLong; text = [] }

-- the program that gives the value of a text, by the joined value of its first items (whether it is known, and its bytes) and by
-- the items that follow
abbrev pub values_left : Place → (Item → Program Value) → (known : Bool) → List ℕ → List Item → Program Value
values_left at value known bytes is = item_values at value (length bytes) is >>= λ rest. returns (joined_values (value_if_known known bytes) rest)

-- the items of a text from its next reference on, by the bytes between its parentheses and those after it; none without one
abbrev pub items_from : Option (Bor (List ℕ) × Bor (List ℕ)) → List Item
items_from (Some parts) = reference parts.0.now ∷ items false 0 parts.1.now
items_from None = []

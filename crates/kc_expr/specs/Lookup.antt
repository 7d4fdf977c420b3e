-- The values of names.
use Rattle.std.specs.Prelude.{◌≡◌, ℕ, ◌<◌, List, [], length, Option, option_and_then, bytes_eq, slice_index_or, position}
use Rattle.kc_expr.specs.Expr.{SymbolValue, Environment}
use Rattle.kc_expr.specs.declared.lookup.Looked.{Looked}

-- the value of a symbol that a look-up returned, as the definitions see it
abbrev pub symbol_value_of : Looked → SymbolValue
symbol_value_of l = record { kind = l.kind; tri = l.tri; text = l.text.now }

-- the place of a name in a list of names, counted from 0; None if the list doesn't have it
unfoldable pub index_of_name : List ℕ → List (List ℕ) → Option ℕ
index_of_name x names = position (bytes_eq x) names

-- no name occurs twice in a list of names
abbrev pub AreDistinct : List (List ℕ) → Type 0
AreDistinct names = (i j : ℕ) → i < length names → j < length names → slice_index_or names i [] ≡ slice_index_or names j [] → i ≡ j

-- the value of each name, by its index in a list of names and the values by index; None if the list doesn't have it
abbrev pub environment_of : List (List ℕ) → (ℕ → Option SymbolValue) → Environment
environment_of names symbol_values x = option_and_then symbol_values (index_of_name x names)

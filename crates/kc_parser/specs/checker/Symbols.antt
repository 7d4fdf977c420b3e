-- The number that is returned for a symbol.
use Rattle.std.specs.Prelude.{◌≡◌, ◌⊎◌, ℕ, Bool, true, false, not, ◌&&◌, nat_le, List, length, slice_get, is_some, Some, Result, Ok, Err}
use Rattle.kc_expr.specs.Lookup.{index_of_name}
use Rattle.kc_expr.specs.between.Names.{with_name}
use Rattle.kc_tree_model.specs.declared.fault.TreeKind.{TreeKind}
use Rattle.kc_tree_model.specs.declared.fault.TreeKind.TheVariants.{OutOfMemory, TooMany}
use Rattle.kc_value.specs.declared.limits.TheConstants.{MAX_SYMBOLS}
use Rattle.kc_parser.specs.declared.listing.SymbolTable.{SymbolTable}
use Rattle.kc_parser.specs.between.SymbolTable.{HasNames}

-- whether a name is none of the symbols' names, and there are already as many symbols as there may be
abbrev pub is_full : List ℕ → List (List ℕ) → Bool
is_full name names = not (is_some (index_of_name name names)) && nat_le MAX_SYMBOLS (length names)

-- the symbol table has these names of symbols, in order of their numbers
abbrev pub KeepsNames : SymbolTable → List (List ℕ) → Type 0
KeepsNames n names = HasNames n.arena n.symbols.items n.numbers.items names

-- the result of a call that gives the number of a name's symbol, which may be a new one: the number, or `TooMany`, or
-- out of memory
abbrev pub ReturnsSymbol : List ℕ → List (List ℕ) → SymbolTable → Result ℕ TreeKind → Type 0
ReturnsSymbol name names new (Ok n) = (is_full name names ≡ false) × KeepsNames new (with_name name names) × (slice_get (with_name name names) n ≡ Some name)
ReturnsSymbol name names new (Err k) = (k ≡ OutOfMemory) ⊎ ((k ≡ TooMany) × (is_full name names ≡ true) × KeepsNames new names)

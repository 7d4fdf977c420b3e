-- The symbol of each name.
use Rattle.std.specs.Prelude.{◌≡◌, ℕ, ◌<◌, List, length, Option, Some, None, slice_get, slice_index_or}
use Rattle.kc_tree.specs.declared.rows.SymbolRow.{SymbolRow}

-- `table` has the first `n` symbols at the numbers of their names, and no symbol at a number that isn't its name's
pub record IsTable (names : ℕ) (symbols : List SymbolRow) (n : ℕ) (table : List (Option ℕ)) : Type 0 where
  pub len : length table ≡ names
  pub has_symbols : (s : ℕ) (r : SymbolRow) → s < n → slice_get symbols s ≡ Some r → slice_index_or table r.name None ≡ Some s
  pub there : (j s : ℕ) → slice_index_or table j None ≡ Some s → (r : SymbolRow) × (slice_get symbols s ≡ Some r) × (r.name ≡ j)

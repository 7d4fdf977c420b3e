-- The names of symbols, as the symbol table has them.
use Rattle.std.specs.Prelude.{◌≡◌, ℕ, zero, suc, ◌<◌, ◌≤◌, List, [], length, map, slice_index, slice_index_or, Option, Some, None, option_and_then, All}
use Rattle.kc_expr.specs.between.Arena.{Exprs}
use Rattle.kc_expr.specs.Lookup.{index_of_name}

-- the number of a symbol, from an entry of a symbol table's `numbers`: one less than the entry; None for 0, the entry of a
-- name without a symbol
abbrev pub number_in_slot : ℕ → Option ℕ
number_in_slot zero = None
number_in_slot (suc n) = Some n

-- the number of the symbol of a name, from the names of the arena and the table of numbers; None if the name has no symbol
abbrev pub number_in : List (List ℕ) → List ℕ → List ℕ → Option ℕ
number_in held numbers name = option_and_then (λ i. number_in_slot (slice_index numbers i)) (index_of_name name held)

-- the bytes of the name at an index of the arena; empty if there is no such name
abbrev pub text_of_name : Exprs → ℕ → List ℕ
text_of_name exprs id = slice_index_or exprs.names id []

-- the symbols have these names, in order of their numbers, and the table of numbers leads from each name to the
-- number of its symbol
pub record HasNames (exprs : Exprs) (symbols numbers : List ℕ) (names : List (List ℕ)) : Type 0 where
  pub words : map (text_of_name exprs) symbols ≡ names
  pub held : All (λ id. id < length exprs.names) symbols
  pub numbered : (name : List ℕ) → number_in exprs.names numbers name ≡ index_of_name name names
  pub few : length numbers ≤ length exprs.names

-- Which numbers are in a list, as marks.
use Rattle.std.specs.Prelude.{◌≡◌, ℕ, ◌<◌, ◌==◌, false, List, length, All, Option, Some, None}
use Rattle.std.specs.List.{list_any, slice_index_or, count_by}
use Rattle.kmin_explain.specs.Names.{with_number}
use Rattle.kmin_explain.specs.declared.each_once.SymbolsOnce.{SymbolsOnce}

-- each number below the count of marks is marked just if it is found, and all that are found are below it, each once
pub record AreMarked (o : SymbolsOnce) : Type 0 where
  pub marks : (k : ℕ) → k < length o.is_found.items → slice_index_or o.is_found.items k false ≡ list_any (λ t. t == k) o.found.items
  pub below : All (λ k. k < length o.is_found.items) o.found.items
  pub count : length o.found.items ≡ count_by (λ is_found. is_found) o.is_found.items

-- numbers with one more, if there is one and it isn't among them
abbrev pub with_meant : List ℕ → Option ℕ → List ℕ
with_meant found None = found
with_meant found (Some s) = with_number found s

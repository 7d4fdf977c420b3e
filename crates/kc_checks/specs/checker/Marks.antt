-- The marks of the members of a choice.
use Rattle.std.specs.Prelude.{◌≡◌, ℕ, ◌<◌, ◌==◌, true, false, List, length, slice_get, slice_index, is_some, Some, None}
use Rattle.std.specs.List.{list_any}
use Rattle.kc_expr.specs.Lookup.{index_of_name}

-- of the symbols of `names`, exactly those of `members` have this mark, and each member is one of `names`
pub record AreMarked (names members : List (List ℕ)) (marks : List ℕ) (mark : ℕ) : Type 0 where
  pub marked : (s : ℕ) (x : List ℕ) → slice_get names s ≡ Some x → (slice_index marks s == mark) ≡ is_some (index_of_name x members)
  pub within : (x : List ℕ) → index_of_name x names ≡ None → index_of_name x members ≡ None

-- `new` is `old` with this mark at the numbers in `members`, and unchanged at all other numbers
pub record WereMarked (old : List ℕ) (members : List ℕ) (mark : ℕ) (new : List ℕ) : Type 0 where
  pub len : length new ≡ length old
  pub marked : (s : ℕ) → s < length old → list_any (λ m. m == s) members ≡ true → slice_index new s ≡ mark
  pub kept : (s : ℕ) → list_any (λ m. m == s) members ≡ false → slice_index new s ≡ slice_index old s

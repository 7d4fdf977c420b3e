-- The ends of a name that match a piece of a pattern.
use Rattle.std.specs.Prelude.{◌≡◌, ℕ, suc, ◌<◌, ◌≤◌, Bool, false, List, length, drop, slice_index_or}
use Rattle.std.specs.List.{list_any}
use Rattle.kc_macros_model.specs.PathPatterns.{matches}

-- `ends` has for each end of a name, from the whole name to the empty end, whether it matches a piece of a pattern
pub record HasEndMatches (piece name : List ℕ) (ends : List Bool) : Type 0 where
  pub count : length ends ≡ suc (length name)
  pub each : (k : ℕ) → k ≤ length name → slice_index_or ends k false ≡ matches piece (drop k name)

-- `ends` has at each place from `at` on whether `start` is true at that place or a later one, and before `at` the same as
-- `start`; `some` is whether `start` is true at `at` or a later place
pub record AreSpread (start ends : List Bool) (at : ℕ) (some : Bool) : Type 0 where
  pub within : at ≤ length start
  pub some_is : some ≡ list_any (λ b. b) (drop at start)
  pub front : (k : ℕ) → k < at → slice_index_or ends k false ≡ slice_index_or start k false
  pub back : (k : ℕ) → at ≤ k → k < length start → slice_index_or ends k false ≡ list_any (λ b. b) (drop k start)

-- Bytes that are looked at together.
use Rattle.std.specs.Prelude.{◌≡◌, ℕ, ◌+◌, ◌<◌, ◌≤◌, Bool, true, List, slice_index}
use Rattle.kc_value.specs.ByteSearch.{NonePasses}

-- of the `count` bytes from `at` on, `before` come before the first that passes; all where none passes
pub record IsCountBefore (passes : ℕ → Bool) (bytes : List ℕ) (at count before : ℕ) : Type 0 where
  pub few : before ≤ count
  pub none : NonePasses passes bytes at (at + before)
  pub here : before < count → passes (slice_index bytes (at + before)) ≡ true

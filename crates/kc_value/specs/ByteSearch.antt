-- Places of bytes that pass a test.
use Rattle.std.specs.Prelude.{◌≡◌, ℕ, ◌<◌, ◌≤◌, Bool, true, false, List, length, slice_index}

-- no byte from one place up to another passes
abbrev pub NonePasses : (ℕ → Bool) → List ℕ → ℕ → ℕ → Type 0
NonePasses passes bytes from to = (k : ℕ) → from ≤ k → k < to → passes (slice_index bytes k) ≡ false

-- the first byte from `at` on that passes is at `place`; where there is none, `place` is the length of the bytes
pub record IsFirstFrom (passes : ℕ → Bool) (bytes : List ℕ) (at place : ℕ) : Type 0 where
  pub order : at ≤ place
  pub within : place ≤ length bytes
  pub none : NonePasses passes bytes at place
  pub here : place < length bytes → passes (slice_index bytes place) ≡ true

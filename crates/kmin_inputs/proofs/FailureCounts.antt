-- Counts of failed calls that rise.
use Rattle.std.proofs.Common.{◌≡◌, ℕ, ◌-◌, ◌^◌, ◌<◌, ◌≤◌, arith}
use Rattle.kc_files.specs.TreeContents.{HasRisen}

not_below : (a b c : ℕ) → a ≤ b → b ≤ c → HasRisen b c → a < 2 ^ 64 - 1 → c ≤ a → ⊥
not_below a b c le up h lt k = omega (arith, h (omega arith))

-- a count that rose after it didn't fall
pub rises_later : (a b c : ℕ) → a ≤ b → b ≤ c → HasRisen b c → HasRisen a c
rises_later a b c le up h = λ lt. (let above = not_below a b c le up h lt in omega (arith, above))

-- a count that rose and then didn't fall
pub rises_earlier : (a b c : ℕ) → b ≤ c → HasRisen a b → HasRisen a c
rises_earlier a b c up h = λ lt. omega (arith, h lt)

-- a count above 0 rose from 0
pub rose_from_none : (a b : ℕ) → a ≡ 0 → HasRisen a b → 0 < b
rose_from_none a b e h = omega (arith, h (omega arith))

-- a file that was opened and closed, of which a read failed meanwhile
pub closed_rises : (own own_after before opened closed : ℕ) → own ≡ 0 → HasRisen own own_after → before ≤ opened → (0 < own_after → HasRisen opened closed)
    → opened ≤ closed → HasRisen before closed
closed_rises own own_after before opened closed e own_rose le rose up = rises_later before opened closed le up (rose (rose_from_none own own_after e own_rose))

-- a count is at most itself
pub at_most_itself : (a : ℕ) → a ≤ a
at_most_itself a = omega arith

-- a count that never fell in two steps
pub rises_twice : (a b c : ℕ) → a ≤ b → b ≤ c → a ≤ c
rises_twice a b c up rose = omega arith

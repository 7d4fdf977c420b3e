-- The first number that passes a test, one after another.
use Rattle.kmin_faults.proofs.Common.{◌≡◌, ℕ, suc, ◌+◌, ◌-◌, ◌<◌, Bool, false, refl, arith, find, range_with_len}

pub find_next : (p : ℕ → Bool) (at n : ℕ) → at < n → p at ≡ false → find p (range_with_len (at + 1) (n - (at + 1))) ≡ find p (range_with_len at (n - at))
find_next p at n h e = by (n - at) (n - (at + 1)) (omega arith)
  where
    by : (m k : ℕ) → m ≡ suc k → find p (range_with_len (at + 1) k) ≡ find p (range_with_len at m)
    by m k s = rw s (rw e refl)

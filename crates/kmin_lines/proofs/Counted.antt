-- Whether a count is above 0.
use Rattle.std.proofs.Common.{◌≡◌, ℕ, ◌<◌, true, false, nat_lt, arith}
use Rattle.std.proofs.lemmas.Bool.Decides.{nat_tests}

pub some_there : (n : ℕ) → 0 < n → true ≡ nat_lt 0 n
some_there n h = grind (arith, nat_tests)

pub none_there : (n : ℕ) → n ≡ 0 → false ≡ nat_lt 0 n
none_there n h = grind (arith, nat_tests)

pub there : (n : ℕ) → true ≡ nat_lt 0 n → 0 < n
there n h = grind (arith, nat_tests)

pub not_there : (n : ℕ) → false ≡ nat_lt 0 n → n ≡ 0
not_there n h = grind (arith, nat_tests)

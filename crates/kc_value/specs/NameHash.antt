-- The hash of a name: the value of a polynomial at a key that is drawn in each run, modulo the prime 2 ^ 61 - 1, whose coefficients are
-- the name's bytes, seven at a time (Carter and Wegman, "Universal classes of hash functions", 1979).
use Rattle.std.specs.Prelude.{ℕ, zero, suc, ◌+◌, ◌-◌, ◌*◌, ◌/◌, ◌%◌, ◌^◌, List, [], ◌∷◌, length, take, drop}
use Rattle.kc_value.specs.declared.seed.NameHasher.{NameHasher}

-- up to seven bytes as a number, the first lowest, with a 1 above the last
unfoldable pub coefficient : (bytes : List ℕ) → ℕ
coefficient [] = 1
coefficient (byte ∷ bytes) = byte + 256 * coefficient bytes

-- the value of a polynomial, from that of the one without its last coefficient
abbrev pub with_coefficient : (key value next : ℕ) → ℕ
with_coefficient key value next = ((value % 2 ^ 61 + next) * (key % 2 ^ 60)) % (2 ^ 61 - 1)

-- the value after further bytes, of which `pieces` pieces of seven come before the last piece
unfoldable pub with_pieces : (key value pieces : ℕ) (bytes : List ℕ) → ℕ
with_pieces key value zero bytes = with_coefficient key value (coefficient bytes)
with_pieces key value (suc pieces) bytes = with_pieces key (with_coefficient key value (coefficient (take 7 bytes))) pieces (drop 7 bytes)

-- the value after further bytes
abbrev pub with_bytes : (key value : ℕ) (bytes : List ℕ) → ℕ
with_bytes key value bytes = with_pieces key value ((length bytes - 1) / 7) bytes

-- a hasher that was given bytes
abbrev pub given : NameHasher → (bytes : List ℕ) → NameHasher
given hasher bytes = record { key = hasher.key; value = with_bytes hasher.key hasher.value bytes }

-- the hash of what a hasher was given, 32 bits of its value
abbrev pub hash_of : NameHasher → ℕ
hash_of hasher = hasher.value % 2 ^ 32

-- The coefficients of a hash, and the pieces of which it is made.
use Rattle.std.proofs.Common.{◌≡◌, ℕ, zero, suc, ◌+◌, ◌-◌, ◌*◌, ◌/◌, ◌<◌, ◌≤◌, ◌^◌, List, [], ◌∷◌, length, take, drop, get_or, slice_index, refl, subst, sym, arith}
use Rattle.std.proofs.lemmas.List.{get_or-drop, length-drop, drop_more}
use Rattle.kc_value.specs.NameHash.{coefficient, with_pieces, with_bytes, with_coefficient}

-- a coefficient of few bytes is small
pub below : (n : ℕ) (bytes : List ℕ) → ((i : ℕ) → get_or bytes i 0 < 256) → length bytes ≤ n → coefficient bytes < 2 * 256 ^ n
unfolding coefficient
below zero [] bounded short = omega arith
below (suc n) [] bounded short = let r = below n [] bounded (omega arith) in omega (arith, r)
below zero (byte ∷ bytes) bounded short = absurd (omega (arith, short))
below (suc n) (byte ∷ bytes) bounded short =
    let r = below n bytes (λ i. bounded (suc i)) (omega (arith, short)) in
    let b = bounded 0 in
    omega (arith, r, b)

-- the number of seven bytes, by each of them
pub of_seven : (bytes : List ℕ) → 7 < length bytes → coefficient (take 7 bytes)
    ≡ slice_index bytes 0 + (slice_index bytes 1 * 256 + (slice_index bytes 2 * 256 ^ 2 + (slice_index bytes 3 * 256 ^ 3
    + (slice_index bytes 4 * 256 ^ 4 + (slice_index bytes 5 * 256 ^ 5 + (slice_index bytes 6 * 256 ^ 6 + 256 ^ 7))))))
unfolding coefficient
of_seven (a ∷ b ∷ c ∷ d ∷ e ∷ f ∷ g ∷ rest) long = omega arith
of_seven bytes long = absurd (omega (arith, long))

-- a piece of seven bytes that others follow goes first
pub piece_first : (key value : ℕ) (bytes : List ℕ) → 7 < length bytes
    → with_bytes key (with_coefficient key value (coefficient (take 7 bytes))) (drop 7 bytes) ≡ with_bytes key value bytes
unfolding with_pieces
piece_first key value bytes long =
    let d : length (drop 7 bytes) ≡ length bytes - 7 = length-drop 7 bytes in
    let pieces : (length bytes - 1) / 7 ≡ suc ((length (drop 7 bytes) - 1) / 7) = omega (arith, d, long) in
    rw pieces refl

-- up to seven bytes are one piece
pub one_piece : (key value : ℕ) (bytes : List ℕ) → length bytes ≤ 7 → with_coefficient key value (coefficient bytes) ≡ with_bytes key value bytes
unfolding with_pieces
one_piece key value bytes short =
    let none : (length bytes - 1) / 7 ≡ 0 = omega (arith, short) in
    rw none refl

-- the coefficient of bytes, from that of all but the first of them
pub byte_before : (bytes : List ℕ) (at : ℕ) → 0 < at → at ≤ length bytes
    → coefficient (drop at bytes) * 256 + slice_index bytes (at - 1) ≡ coefficient (drop (at - 1) bytes)
unfolding coefficient
byte_before bytes at some within =
    let same : at - 1 + 1 ≡ at = omega (arith, some) in
    let first : drop (at - 1) bytes ≡ slice_index bytes (at - 1) ∷ drop at bytes =
    subst (λ (n : ℕ). drop (at - 1) bytes ≡ slice_index bytes (at - 1) ∷ drop n bytes) same (drop_more bytes (at - 1) 0 (omega (arith, some, within))) in
    rw first (omega arith)

-- the coefficient of the last of few bytes is small
pub rest_below : (n at : ℕ) (bytes : List ℕ) → ((i : ℕ) → get_or bytes i 0 < 256) → length bytes ≤ at + n → coefficient (drop at bytes) < 2 * 256 ^ n
rest_below n at bytes bounded short =
    let l : length (drop at bytes) ≡ length bytes - at = length-drop at bytes in
    below n (drop at bytes) (λ i. subst (λ (x : ℕ). x < 256) (sym (get_or-drop at bytes i 0)) (bounded (at + i))) (omega (arith, l, short))

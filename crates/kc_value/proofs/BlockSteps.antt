-- Bytes that pass a test among those that are looked at together.
use Rattle.std.proofs.Common.{◌≡◌, ℕ, suc, zero, ◌+◌, ◌-◌, ◌*◌, ◌/◌, ◌%◌, ◌^◌, ◌≤◌, Bool, true, false, ◌||◌, eqb, cond, bit_or, List, [], ◌∷◌, length, map, take, drop, drop-drop, refl, sym, ap, ap₂, ◌∙◌, subst, arith}
use Rattle.std.proofs.lemmas.Simd.{length-chunk, first_set_mask_l, none_from_empty_mask, run_in_chunk_le, run_in_chunk_fails, run_in_chunk_stops, mask_l-mod, zip2_of_maps}
use Rattle.std.proofs.lemmas.List.{length-map, drop-map, drop-take}
use Rattle.std.proofs.Math.Nat.{div-one, zero-div, div-div-eq-div-mul, pow-suc, mul_comm}
use Rattle.std.proofs.lemmas.Bool.{eqb-true}
use lib.Count.{count_trailing_zeros}
use lib.Lanes.{chunk, mask_l, top, zip2}
use Rattle.kc_value.specs.ByteSearch.{IsFirstFrom}
use Rattle.kc_value.specs.checker.ByteBlocks.{IsCountBefore}

is_false : (b : Bool) → (b ≡ true → ⊥) → b ≡ false
is_false true h = absurd (h refl)
is_false false h = refl

-- of `n` bytes, as the bits of a mask
module _ (passes : ℕ → Bool) (bytes : List ℕ) (at n : ℕ) (room : at + n ≤ length bytes) (few : n ≤ 64) where
  -- no bit is set
  pub none_among : mask_l (map passes (chunk at n bytes)) ≡ 0 → IsCountBefore passes bytes at n n
  none_among e = record {
    few = omega arith;
    none = λ k from to. none_from_empty_mask passes bytes at n 0 room e k from to;
    here = λ h. absurd (omega arith);
  }

  -- the lowest bit that is set is that of the first byte that passes
  pub first_among : (m : ℕ) → m ≡ mask_l (map passes (chunk at n bytes)) → (m ≡ 0 → ⊥) → IsCountBefore passes bytes at n (count_trailing_zeros 64 m)
  first_among m e some =
      let all = first_set_mask_l passes (chunk at n bytes) n (length-chunk at n bytes room) few in
      let unequal = is_false (eqb m 0) (λ t. some (eqb-true m 0 t)) in
      let same = ap (λ k. cond (eqb k 0) n (count_trailing_zeros 64 k)) e ∙ all in
      let counted = sym (ap (λ b. cond b n (count_trailing_zeros 64 m)) unequal) ∙ same in
      record {
        few = run_in_chunk_le passes bytes at n (count_trailing_zeros 64 m) 0 room counted;
        none = λ k from to. run_in_chunk_fails passes bytes at n (count_trailing_zeros 64 m) 0 room counted k from to;
        here = λ h. run_in_chunk_stops passes bytes at n (count_trailing_zeros 64 m) 0 room counted h;
      }

-- of bytes up to the last, the count before the first that passes gives its place
pub place_of_count : (passes : ℕ → Bool) (bytes : List ℕ) (at n before : ℕ) → at + n ≡ length bytes → IsCountBefore passes bytes at n before
    → IsFirstFrom passes bytes at (at + before)
place_of_count passes bytes at n before e c = record {
  order = omega arith;
  within = omega (arith, c.few);
  none = c.none;
  here = λ h. c.here (omega (arith, h));
}

half : (b : Bool) (n : ℕ) → (cond b 1 0 + 2 * n) / 2 ≡ n
half true n = omega arith
half false n = omega arith

-- a mask without its lowest bits is that of the other lanes
mask_drop : (k : ℕ) (ms : List Bool) → mask_l ms / 2 ^ k ≡ mask_l (drop k ms)
mask_drop zero ms = div-one (mask_l ms)
mask_drop (suc k) [] = zero-div (2 ^ suc k)
mask_drop (suc k) (m ∷ ms) =
    ap (λ n. mask_l (m ∷ ms) / n) (pow-suc 2 k ∙ mul_comm (2 ^ k) 2) ∙ sym (div-div-eq-div-mul (mask_l (m ∷ ms)) 2 (2 ^ k))
    ∙ ap (λ n. n / 2 ^ k) (half m (mask_l ms)) ∙ mask_drop k ms

-- the mask of the last bytes, without those before a place
pub last_mask : (passes : ℕ → Bool) (bytes : List ℕ) (begin skipped n : ℕ) → skipped + n ≡ 16
    → mask_l (map passes (chunk begin 16 bytes)) / 2 ^ skipped ≡ mask_l (map passes (chunk (begin + skipped) n bytes))
last_mask passes bytes begin skipped n e =
    mask_drop skipped (map passes (chunk begin 16 bytes))
    ∙ ap mask_l (drop-map passes skipped (chunk begin 16 bytes)
    ∙ ap (map passes) (ap (λ m. drop skipped (take m (drop begin bytes))) (sym e) ∙ drop-take skipped n (drop begin bytes)
    ∙ ap (take n) (drop-drop skipped begin bytes)))

-- the bytes from a place on, of which the last sixteen are looked at together
module _ (passes : ℕ → Bool) (bytes : List ℕ) (at m : ℕ) (long : 16 ≤ length bytes) (within : at ≤ length bytes) (last : length bytes ≤ at + 16)
    (all : m ≡ mask_l (map passes (chunk (length bytes - 16) 16 bytes))) where
  abbrev rest : ℕ
  rest = m / 2 ^ (at - (length bytes - 16))

  rest_is : rest ≡ mask_l (map passes (chunk at (length bytes - at) bytes))
  rest_is =
      let begin : length bytes - 16 + (at - (length bytes - 16)) ≡ at = omega arith in
      ap (λ k. k / 2 ^ (at - (length bytes - 16))) all
      ∙ last_mask passes bytes (length bytes - 16) (at - (length bytes - 16)) (length bytes - at) (omega arith)
      ∙ ap (λ k. mask_l (map passes (chunk k (length bytes - at) bytes))) begin

  pub none_of_last : rest ≡ 0 → IsFirstFrom passes bytes at (length bytes)
  none_of_last e =
      let c = none_among passes bytes at (length bytes - at) (omega arith) (omega arith) (sym rest_is ∙ e) in
      let p = place_of_count passes bytes at (length bytes - at) (length bytes - at) (omega arith) c in
      let end : at + (length bytes - at) ≡ length bytes = omega arith in
      subst (λ k. IsFirstFrom passes bytes at k) end p

  pub first_of_last : (rest ≡ 0 → ⊥) → IsFirstFrom passes bytes at (at + count_trailing_zeros 64 rest)
  first_of_last some =
      place_of_count passes bytes at (length bytes - at) (count_trailing_zeros 64 rest) (omega arith)
      (first_among passes bytes at (length bytes - at) (omega arith) (omega arith) rest rest_is some)

-- the lanes that a comparison makes of a test
abbrev pub lanes_of : (ℕ → Bool) → List ℕ → List ℕ
lanes_of passes block = map (λ x. cond (passes x) 255 0) block

-- the lanes where one of two tests passes
one_of : (a b : Bool) → bit_or (cond a 255 0) (cond b 255 0) ≡ cond (a || b) 255 0
one_of true true = refl
one_of true false = refl
one_of false true = refl
one_of false false = refl

each_one_of : (p q : ℕ → Bool) (block : List ℕ) → map (λ x. bit_or (cond (p x) 255 0) (cond (q x) 255 0)) block ≡ lanes_of (λ x. p x || q x) block
each_one_of p q [] = refl
each_one_of p q (x ∷ xs) = ap₂ (λ y ys. y ∷ ys) (one_of (p x) (q x)) (each_one_of p q xs)

pub either_lanes : (p q : ℕ → Bool) (block : List ℕ) {xs ys : List ℕ} → xs ≡ lanes_of p block → ys ≡ lanes_of q block
    → zip2 bit_or xs ys ≡ lanes_of (λ x. p x || q x) block
either_lanes p q block e f = zip2_of_maps bit_or _ _ block e f ∙ each_one_of p q block

top_of : (b : Bool) → top 7 (cond b 255 0) ≡ b
top_of true = refl
top_of false = refl

tops_of : (p : ℕ → Bool) (block : List ℕ) → map (top 7) (lanes_of p block) ≡ map p block
tops_of p [] = refl
tops_of p (x ∷ xs) = ap₂ (λ y ys. y ∷ ys) (top_of (p x)) (tops_of p xs)

-- the mask of lanes that a test passes
pub mask_of_lanes : (p : ℕ → Bool) (block lanes : List ℕ) → length block ≤ 64 → lanes ≡ lanes_of p block
    → mask_l (map (top 7) lanes) % 2 ^ 64 ≡ mask_l (map p block)
mask_of_lanes p block lanes short e =
    ap (λ l. mask_l l % 2 ^ 64) (ap (map (top 7)) e ∙ tops_of p block) ∙ mask_l-mod (map p block) 64 (omega (arith, length-map block p))

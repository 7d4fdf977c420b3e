-- The texts of numbers are read back.
use Rattle.std.proofs.Common.{◌≡◌, ℕ, zero, suc, ◌+◌, ◌*◌, ◌/◌, ◌%◌, ◌^◌, ◌<◌, ◌≤◌, ℤ, pos, negsuc, Bool as Boolean, true, false, eqb, cond, List, [], ◌∷◌, length, Some, inl, refl, subst, arith}
use Rattle.std.specs.Prelude.{unsigned_abs, ◌≤ℤ◌, ◌<ℤ◌}
use Rattle.std.specs.Fmt.{digits, digits_onto, digit_glyph, decimal, signed_decimal}
use Rattle.std.proofs.lemmas.Bool.{eq-eqb}
use Rattle.std.proofs.lemmas.Fmt.{decimal_is_IsNumeral, digits_is_IsNumeral, length-decimal-le}
use Rattle.std.proofs.lemmas.Int.{ints}
use Rattle.std.proofs.lemmas.Nat.{shr_below}
use Rattle.kc_value.specs.declared.value.Kind.{Kind}
use Rattle.kc_value.specs.declared.value.Kind.TheVariants.{Bool, Tristate, Text, Int, Hex}
use Rattle.kc_value.specs.Number.{int_text, hex_text, number_of_text, number_spelling, IsPrintable}
use Rattle.kc_value.specs.NumberGrammar.{decimal as plain_decimal, negative, prefixed}
use Rattle.kc_value.proofs.NumberLaws.{int_complete}
use Rattle.kc_value.proofs.HexLaws.{hex_complete}

pub int_read_back : (z : ℤ) → unsigned_abs z < 2 ^ 63 → int_text (signed_decimal z) ≡ Some z
int_read_back (pos n) h =
    let w = decimal_is_IsNumeral n (omega arith) in
    let l = length-decimal-le 20 n (omega arith) (omega arith) (omega arith) in
    int_complete (decimal n) (pos n) (plain_decimal n w h refl (omega arith))
int_read_back (negsuc n) h =
    let w = decimal_is_IsNumeral (suc n) (omega arith) in
    let l = length-decimal-le 20 (suc n) (omega arith) (omega arith) (omega arith) in
    int_complete (45 ∷ decimal (suc n)) (negsuc n) (negative (decimal (suc n)) (suc n) refl w h refl (omega arith))

hex_len : (k j n : ℕ) (acc : List ℕ) → n < 2 ^ (4 * j + 4) → length (digits_onto k 16 false n acc) ≤ j + 1 + length acc
hex_len zero j n acc h = omega arith
hex_len (suc k) zero n acc h =
    let low : n < 16 = h in
    let none : eqb (n / 16) 0 ≡ true = eq-eqb (n / 16) 0 (omega arith) in
    rw none (omega arith)
hex_len (suc k) (suc j) n acc h = by_rest (eqb (n / 16) 0) (hex_len k j (n / 16) (digit_glyph false (n % 16) ∷ acc)
    (shr_below n (4 * j + 4) 4 (subst (λ e. n < 2 ^ e) (let q : 4 * suc j + 4 ≡ (4 * j + 4) + 4 = omega arith in q) h)))
  where
    by_rest : (b : Boolean) → length (digits_onto k 16 false (n / 16) (digit_glyph false (n % 16) ∷ acc)) ≤ j + 1 + length (digit_glyph false (n % 16) ∷ acc)
        → length (cond b (digit_glyph false (n % 16) ∷ acc) (digits_onto k 16 false (n / 16) (digit_glyph false (n % 16) ∷ acc))) ≤ suc j + 1 + length acc
    by_rest true ih = omega arith
    by_rest false ih = omega arith

hex_length : (n : ℕ) → n < 2 ^ 64 → length (digits 16 false n) ≤ 16
unfolding digits
hex_length n h = hex_len 64 15 n [] h

pub hex_read_back : (z : ℤ) → pos 0 ≤ℤ z → z <ℤ pos (2 ^ 64) → hex_text (48 ∷ 120 ∷ digits 16 false (unsigned_abs z)) ≡ Some z
hex_read_back (pos n) low high =
    let h : n < 2 ^ 64 = omega (arith, ints) in
    let w = digits_is_IsNumeral 16 false (omega arith) (omega arith) n (omega arith) in
    let l = hex_length n h in
    hex_complete (48 ∷ 120 ∷ digits 16 false n) (pos n) (prefixed (digits 16 false n) n (record { letter = 120; is_x = inl refl; parts = refl }) w h refl
    (omega arith))
hex_read_back (negsuc n) low high = absurd (omega (arith, ints))

-- the text of a number is read back as that number
pub spelling_read_back : (kind : Kind) (z : ℤ) → IsPrintable kind z → number_of_text kind (number_spelling kind z) ≡ Some z
spelling_read_back Int z h = int_read_back z h
spelling_read_back Hex z h = hex_read_back z h.0 h.1
spelling_read_back Bool z h = absurd h
spelling_read_back Tristate z h = absurd h
spelling_read_back Text z h = absurd h

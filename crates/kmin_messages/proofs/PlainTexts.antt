-- Texts that are shown have no control bytes.
use lib.Utf8.{encode as encode_utf8, next}
use Rattle.std.proofs.Common.{◌≡◌, ℕ, ◌+◌, ◌/◌, ◌%◌, ◌<◌, ◌≤◌, Bool, true, false, not, cond, ◌&&◌, ◌||◌, ◌==◌, nat_lt, ltb, refl, arith}
use Rattle.std.specs.Char.{digit_char, is_control}
use Rattle.std.proofs.lemmas.Bool.{eqb-true, ltb-true}
use Rattle.std.proofs.lemmas.Bool.Decides.{nat_tests}
use Rattle.std.proofs.lemmas.Str.{encode_ascii}
use Rattle.kmin_messages.specs.ShownTexts.{has_no_control_byte, code_text, shown_char}
use Rattle.kmin_messages.proofs.SafeBytes.{cond_passes}

-- whether a byte is no control byte
abbrev is_plain : ℕ → Bool
is_plain b = not (nat_lt b 32 || (b == 127))

plain_by : (b : ℕ) (low delete : Bool) → nat_lt b 32 ≡ low → (b == 127) ≡ delete → 32 ≤ b → (b ≡ 127 → ⊥) → is_plain b ≡ true
plain_by b true delete e f h k = absurd (let l = ltb-true b 32 e in omega (arith, l, h))
plain_by b false true e f h k = absurd (k (eqb-true b 127 f))
plain_by b false false e f h k = rw (e, f) refl

plain : (b : ℕ) → 32 ≤ b → (b ≡ 127 → ⊥) → is_plain b ≡ true
plain b h k = plain_by b (nat_lt b 32) (b == 127) refl refl h k

high : (b : ℕ) → 128 ≤ b → is_plain b ≡ true
high b h = plain b (omega arith) (λ e. omega arith)

both : (a b : Bool) → a ≡ true → b ≡ true → (a && b) ≡ true
both a b h k = rw (h, k) refl

-- a character past ASCII has bytes of 128 and more
wide_of : (c : ℕ) (a b : Bool) → ltb c 2048 ≡ a → ltb c 65536 ≡ b → ltb c 128 ≡ false → has_no_control_byte (encode_utf8 c) ≡ true
unfolding encode_utf8
wide_of c true b e f g = rw (g, e) (both _ _ (high (192 + c / 64) (omega arith)) (both _ true (high (next c) (omega arith)) refl))
wide_of c false true e f g = rw (g, e, f)
    (both _ _ (high (224 + c / 4096) (omega arith)) (both _ _ (high (next (c / 64)) (omega arith)) (both _ true (high (next c) (omega arith)) refl)))
wide_of c false false e f g = rw (g, e, f)
    (both _ _ (high (240 + c / 262144) (omega arith)) (both _ _ (high (next (c / 4096)) (omega arith))
    (both _ _ (high (next (c / 64)) (omega arith)) (both _ true (high (next c) (omega arith)) refl))))

-- the bounds of a character that is no control character
bounds : (c : ℕ) → is_control c ≡ false → (32 ≤ c) × (c ≡ 127 → ⊥)
bounds c h = grind (arith, nat_tests)

-- a character that is no control character has no control byte
pub other_char : (c : ℕ) → is_control c ≡ false → has_no_control_byte (encode_utf8 c) ≡ true
other_char c h = at_size (ltb c 128) refl
  where
    at_size : (b : Bool) → ltb c 128 ≡ b → has_no_control_byte (encode_utf8 c) ≡ true
    at_size true e = rw (encode_ascii c (ltb-true c 128 e)) (both _ true (plain c (bounds c h).0 (bounds c h).1) refl)
    at_size false e = wide_of c (ltb c 2048) (ltb c 65536) refl refl e

plain_digit : (d : ℕ) → d < 16 → is_plain (digit_char d) ≡ true
plain_digit d h = at_size (nat_lt d 10) refl
  where
    at_size : (b : Bool) → nat_lt d 10 ≡ b → is_plain (digit_char d) ≡ true
    at_size true e = rw e (plain (48 + d) (omega arith) (let l = ltb-true d 10 e in λ k. omega (arith, l)))
    at_size false e = rw e (plain (87 + d) (omega arith) (λ k. omega (arith, h)))

control_bound : (c : ℕ) → is_control c ≡ true → c < 160
control_bound c h = grind (arith, nat_tests)

-- the code of a control character has no control byte
pub code_plain : (c : ℕ) → is_control c ≡ true → has_no_control_byte (code_text c) ≡ true
code_plain c h =
    let small : c < 160 = control_bound c h in
    both _ _ (plain_digit (c / 16) (omega arith)) (both _ true (plain_digit (c % 16) (omega arith)) refl)

-- a character as a message shows it has no control byte
pub char_plain : (c : ℕ) → has_no_control_byte (shown_char c) ≡ true
char_plain c =
    cond_passes has_no_control_byte (c == 10) _ _ refl
    (cond_passes has_no_control_byte (c == 9) _ _ refl
    (cond_passes has_no_control_byte (c == 92) _ _ refl (coded (is_control c) refl)))
  where
    coded : (b : Bool) → is_control c ≡ b → has_no_control_byte (cond (is_control c) (code_text c) (encode_utf8 c)) ≡ true
    coded true e = rw e (code_plain c e)
    coded false e = rw e (other_char c e)
